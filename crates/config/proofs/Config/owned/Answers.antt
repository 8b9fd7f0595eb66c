use Rattle.config.specs.Config.{owned}
use native.Mathlib.Omega.{arith}
use Rattle.config.proofs.Config.owned.Goals as goal

pub returns : goal.returns
unfolding owned
returns c = (rw (c.register.ensures.0, c.register-third.ensures.0, c.register-second.ensures.0, c.register-first.ensures.0, c.register-count.ensures.0, c.controls.ensures.0), omega (arith, c.register.ensures.1, c.register-third.ensures.1, c.register-second.ensures.1, c.register-first.ensures.1, c.register-count.ensures.1, c.controls.ensures.1))
