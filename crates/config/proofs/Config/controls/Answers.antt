use Rattle.config.specs.Config.{controls}
use native.Mathlib.Omega.{arith}
use Rattle.config.proofs.Config.controls.Goals as goal

pub returns : goal.returns
unfolding controls
returns c = (rw (c.also-2.ensures.0, c.also-two.ensures.0, c.is_split.ensures, c.also.ensures.0, c.new.ensures.0), omega (arith, c.also-2.ensures.1, c.also-two.ensures.1, c.also.ensures.1, c.new.ensures.1))
