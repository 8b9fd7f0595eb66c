use Rattle.std.proofs.Common.{sym, ◌∙◌, arith}
use Rattle.oscillator.proofs.Loop.{turned, halted, ended}
use Rattle.oscillator.proofs.passing.run.Goals as goal

pub returns-then-area-written-lt10 : goal.returns-then-area-written-lt10
returns-then-area-written-lt10 c =
    let g = c.gap.ensures in
    halted c.loop-gap.invariant (sym c.is_quiet.ensures ∙ c.loop-gap-test.true) c.if-area-written-lt10.true (cc c.skip.ensures) (omega arith)

pub loop-gap-preserved : goal.loop-gap-preserved
loop-gap-preserved c =
    rw (c.timed_out-moving.ensures, c.put-written.ensures.0)
    (turned c.loop-gap.invariant (sym c.is_quiet.ensures ∙ c.loop-gap-test.true) (omega arith) (omega arith) c.cycle-cycle.ensures (rw c.timeout.ensures at c.put-written.ensures.1))

pub returns : goal.returns
returns c = ended c.loop-gap.invariant (sym c.is_quiet.ensures ∙ c.loop-gap-test.false) c.skip-2.ensures
