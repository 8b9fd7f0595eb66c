use Rattle.config.specs.Config.{flags_of}
use native.Mathlib.Omega.{arith}
use Rattle.config.proofs.Config.flags.Goals as goal

pub returns : goal.returns
unfolding flags_of
returns c = (c.five.ensures.0, omega arith)
