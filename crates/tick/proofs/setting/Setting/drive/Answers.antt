use Rattle.tick.proofs.Writes.{wrote_then, strobed-appends}
use native.Mathlib.Omega.{arith}
use Rattle.tick.proofs.setting.Setting.drive.Goals as goal

pub returns-then-again : goal.returns-then-again
returns-then-again c = (rw c.if-again.true (wrote_then (strobed-appends c.args.self c.args.e) c.reapply-first.ensures.0 c.strobe.ensures.0), omega arith)

pub returns-else-again : goal.returns-else-again
returns-else-again c = (rw c.if-again.false c.strobe-else-again.ensures.0, omega arith)
