use Rattle.std.proofs.Common.{rules, arith, sym, take-append-drop}
use Rattle.pieces.proofs.Cuts.{one-fewer, takes-ten, takes-byte, passes-byte, takes-rest}
use Rattle.pieces.proofs.RecordsIterator.next.Goals as goal

pub returns : goal.returns
returns c =
    let all = rw (← c.in-Some.ensures.cases.0, ← c.in-Some.ensures.cases.1) at (sym (take-append-drop 10 c.args.self.now.rest.now)) in
    let one = takes-ten c.args.self.now (record { part = c.ten-part.result; rest = c.in-Some.rest }) _ c.ten-part.ensures (search rules) all c.whole.ensures in
    record { steps = one; goes = one-fewer one }

pub returns-then-between-2 : goal.returns-then-between-2
returns-then-between-2 c =
    let one = takes-byte c.args.self.now c.loop-b.self (record { part = c.after.result; rest = c.in-Some-split_first.rest }) c.loop-b.invariant _ c.in-Some-split_first.ensures.cases.0 c.after.ensures (search rules) c.whole-then-between-2.ensures in
    record { steps = one; goes = one-fewer one }

pub loop-b-preserved : goal.loop-b-preserved
loop-b-preserved c = passes-byte _ _ _ c.loop-b.invariant _ c.in-Some-split_first.ensures.cases.0 c.after.ensures (search rules)

pub returns-2-clause-steps : goal.returns-2-clause-steps
returns-2-clause-steps c = takes-rest _ _ c.loop-b.invariant (omega (arith, c.in_default.ensures.cases))
