use native.Mathlib.Omega.{arith}
use borrow.Author.Tests.{le-leb, lt-leb}
use Rattle.tick.proofs.setting.Channel.acts_at_bottom.Goals as goal

pub returns-in-0-to-1 : goal.returns-in-0-to-1
returns-in-0-to-1 c = simp (lt-leb 2 c.args.self.comx (omega arith))

pub returns-in_default : goal.returns-in_default
returns-in_default c = simp (le-leb 2 c.args.self.comx (omega arith))
