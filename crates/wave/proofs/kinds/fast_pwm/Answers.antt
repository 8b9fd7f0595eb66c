use Rattle.std.proofs.Common.{ne_eqb}
use Rattle.wave.proofs.kinds.fast_pwm.Goals as goal

pub returns-in-2 : goal.returns-in-2
returns-in-2 c = simp c.in-2.is

pub returns-in_default : goal.returns-in_default
returns-in_default c = simp (ne_eqb _ _ c.in_default.in_default-own.rest.1)
