use Rattle.tick.proofs.Writes.{reapplied-wrote}
use native.Mathlib.Omega.{arith}
use Rattle.tick.proofs.setting.Setting.reapply.Goals as goal

pub returns : goal.returns
returns c = (reapplied-wrote _ _ c.apply-first.ensures.0 c.apply-second.ensures.0 c.apply.ensures.0, omega arith)
