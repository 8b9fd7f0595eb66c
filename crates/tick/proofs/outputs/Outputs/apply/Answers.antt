use native.Mathlib.Omega.{arith}
use Rattle.tick.specs.Outputs.{on_pin}
use Rattle.tick.proofs.Writes.{wrote_none}
use Rattle.tick.proofs.outputs.Outputs.apply.Goals as goal

pub returns-then-wire : goal.returns-then-wire
unfolding on_pin
returns-then-wire c = (rw (c.if-wire.true, ← c.bit.ensures.0) c.«record».ensures.0, c.«record».ensures.1)

pub returns-else-wire : goal.returns-else-wire
unfolding on_pin
returns-else-wire c = (rw c.if-wire.false (wrote_none _ _ _), omega arith)
