use native.Mathlib.Omega.{arith}
use Rattle.tick.specs.Outputs.{matched}
use Rattle.tick.proofs.Writes.{wrote_none}
use Rattle.tick.proofs.outputs.Outputs.matched.Goals as goal

pub returns-then-hit-channel : goal.returns-then-hit-channel
unfolding matched
returns-then-hit-channel c = (rw (c.if-hit-channel.true, ← c.level-level.ensures) c.act.ensures.0, c.act.ensures.1)

pub returns-else-hit-channel : goal.returns-else-hit-channel
unfolding matched
returns-else-hit-channel c = (rw c.if-hit-channel.false (wrote_none _ _ _), omega arith)
