use native.Mathlib.Omega.{arith}
use Rattle.counter.specs.Modes.{mode_at}
use Rattle.counter.proofs.state.Timer.mode_at.Goals as goal

pub returns-then-wide : goal.returns-then-wide
unfolding mode_at
returns-then-wide c = (simp c.if-wide.true, simp c.if-wide.true (omega arith))

pub returns-else-wide : goal.returns-else-wide
unfolding mode_at
returns-else-wide c = (simp c.if-wide.false, simp c.if-wide.false (omega arith))
