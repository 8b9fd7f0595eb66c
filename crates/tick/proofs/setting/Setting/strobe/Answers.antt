use native.Mathlib.Omega.{arith}
use Rattle.tick.specs.Outputs.{strobed}
use Rattle.tick.proofs.Writes.{wrote_none}
use Rattle.tick.proofs.setting.Setting.strobe.Goals as goal

pub returns-then-non_pwm : goal.returns-then-non_pwm
unfolding strobed
returns-then-non_pwm c = (rw (← c.non_pwm.ensures, c.if-non_pwm.true) c.matches.ensures.0, c.matches.ensures.1)

pub returns-else-non_pwm : goal.returns-else-non_pwm
unfolding strobed
returns-else-non_pwm c = (rw (← c.non_pwm.ensures, c.if-non_pwm.false) (wrote_none _ _ _), omega arith)
