use native.Mathlib.Omega.{arith}
use Rattle.tick.specs.Outputs.{bottomed}
use Rattle.tick.proofs.Writes.{wrote_none}
use Rattle.tick.proofs.outputs.Outputs.bottomed.Goals as goal

pub returns-then-acts_at_bottom : goal.returns-then-acts_at_bottom
unfolding bottomed
returns-then-acts_at_bottom c = (rw (← c.acts_at_bottom.ensures, c.if-acts_at_bottom.true, ← c.bit.ensures.0) c.act.ensures.0, c.act.ensures.1)

pub returns-else-acts_at_bottom : goal.returns-else-acts_at_bottom
unfolding bottomed
returns-else-acts_at_bottom c = (rw (← c.acts_at_bottom.ensures, c.if-acts_at_bottom.false) (wrote_none _ _ _), omega arith)
