use Rattle.std.proofs.Common.{arith, le-leb}
use borrow.Author.Tests.{lt-leb}
use Rattle.wave.proofs.kinds.non_pwm.Goals as goal

pub returns-in-0-to-1 : goal.returns-in-0-to-1
returns-in-0-to-1 c = simp (le-leb c.args.kind 1 (omega arith))

pub returns-in_default : goal.returns-in_default
returns-in_default c = simp (lt-leb c.args.kind 1 (omega arith))
