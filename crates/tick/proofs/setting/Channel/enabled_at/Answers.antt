use borrow.Author.Tests.{ne_eqb}
use Rattle.tick.specs.Setting.{enabled_at}
use Rattle.tick.proofs.setting.Channel.enabled_at.Goals as goal

pub returns-in-0 : goal.returns-in-0
unfolding enabled_at
returns-in-0 c = simp c.in-0.is

pub returns-in-1 : goal.returns-in-1
unfolding enabled_at
returns-in-1 c = simp (c.non_pwm.ensures, c.in-1.is)

pub returns-in_default : goal.returns-in_default
unfolding enabled_at
returns-in_default c = simp (ne_eqb _ _ c.in_default.in_default-own.rest.0.1, ne_eqb _ _ c.in_default.in_default-own.rest.1)
