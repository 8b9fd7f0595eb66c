use native.Mathlib.Omega.{arith}
use Rattle.tick.proofs.Writes.{bottoms-wrote}
use Rattle.tick.proofs.outputs.bottoms.Goals as goal

pub returns : goal.returns
returns c = (bottoms-wrote _ _ _ _ c.bottomed-first.ensures.0 c.bottomed-second.ensures.0 c.bottomed.ensures.0, omega arith)
