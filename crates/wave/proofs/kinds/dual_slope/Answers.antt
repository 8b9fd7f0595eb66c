use Rattle.std.proofs.Common.{arith, le-leb}
use borrow.Author.Tests.{lt-leb}
use Rattle.wave.proofs.kinds.dual_slope.Goals as goal

pub returns-in-0-to-2 : goal.returns-in-0-to-2
returns-in-0-to-2 c = simp (lt-leb 3 c.args.kind (omega arith))

pub returns-in_default : goal.returns-in_default
returns-in_default c = simp (le-leb 3 c.args.kind (omega arith))
