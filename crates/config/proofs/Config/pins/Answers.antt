use Rattle.config.specs.Config.{pins_of}
use native.Mathlib.Omega.{arith}
use Rattle.config.proofs.Config.pins.Goals as goal

pub returns : goal.returns
unfolding pins_of
returns c = (c.five.ensures.0, omega arith)
