use native.Mathlib.Omega.{arith}
use Rattle.tick.proofs.Writes.{matches-wrote}
use Rattle.tick.proofs.outputs.matches.Goals as goal

pub returns : goal.returns
returns c = (matches-wrote _ _ _ _ _ _ c.matched-first.ensures.0 c.matched-second.ensures.0 c.matched.ensures.0, omega arith)
