use Rattle.std.proofs.Common.{arith, ◌+◌, ◌-◌, ◌/◌, length, refl, le-ltb, lt-ltb}
use Rattle.figures.proofs.Writing.{wrote_then}
use Rattle.dump.specs.Answers.{dump_outcome}
use Rattle.dump.proofs.Answering.{refusal_is, wrote_answers, dump_is}
use Rattle.dump.proofs.dump.Goals as goal
use Rattle.dump.proofs.dump.Goals.{then-out-lt-HEADER-via-then-out-lt-HEADER, then-out-lt-HEADER-via-else-out-lt-HEADER+then-out-log}

pub returns-in-Some : goal.returns-in-Some
unfolding dump_outcome
returns-in-Some c =
    let e = refusal_is c.args.log.now _ _ _ (λ i. (c.type_inv.log i).fits) c.new-check.ensures c.piece.ensures c.refusal.ensures in
    rw (← e, c.in-Some.is) record { answer = refl; area = refl }

pub returns-then-out-lt-HEADER : goal.returns-then-out-lt-HEADER
unfolding dump_outcome
returns-then-out-lt-HEADER c =
    let e = refusal_is c.args.log.now _ _ _ (λ i. (c.type_inv.log i).fits) c.new-check.ensures c.piece.ensures c.refusal.ensures in
    rw (← e, c.in_default.is)
    (elim c.then-out-lt-HEADER.branch [
      | then-out-lt-HEADER-via-then-out-lt-HEADER w ↦ rw (lt-ltb (length c.args.out.now) 6954 w.if-out-lt-HEADER.true) record { answer = refl; area = refl }
      | then-out-lt-HEADER-via-else-out-lt-HEADER+then-out-log w ↦ rw (le-ltb (length c.args.out.now) 6954 w.if-out-lt-HEADER.false, lt-ltb ((length c.args.out.now - 6954) / 32) (length c.args.log.now / 10 + 1) w.if-out-log.true) record { answer = refl; area = refl }
    ])

pub returns : goal.returns
unfolding dump_outcome
returns c =
    let e = refusal_is c.args.log.now _ _ _ (λ i. (c.type_inv.log i).fits) c.new-check.ensures c.piece.ensures c.refusal.ensures in
    let d = dump_is c.args.log.now c.pins.result.now c.new.result (λ i. (c.type_inv.log i).fits) (rw (c.pins.ensures, c.piece.ensures, c.new-check.ensures)) c.new.ensures in
    rw (← e, c.in_default.is, le-ltb (length c.args.out.now) 6954 c.if-out-lt-HEADER.false, le-ltb ((length c.args.out.now - 6954) / 32) (length c.args.log.now / 10 + 1) c.if-out-log.false, ← d)
    (wrote_answers (wrote_then c.put_header-a.ensures.lines c.lines.ensures.lines) (omega arith))
