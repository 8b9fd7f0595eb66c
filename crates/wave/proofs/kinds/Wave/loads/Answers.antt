use Rattle.std.proofs.Common.{arith, le-leb}
use borrow.Author.Tests.{lt-leb}
use Rattle.wave.specs.Count.{loads}
use Rattle.wave.proofs.kinds.Wave.loads.Goals as goal

pub returns-in-0-to-1 : goal.returns-in-0-to-1
unfolding loads
returns-in-0-to-1 c = simp (le-leb c.args.self.kind 1 (omega arith))

pub returns-in-2-to-3 : goal.returns-in-2-to-3
unfolding loads
returns-in-2-to-3 c = simp (lt-leb c.args.self.kind 1 (omega arith), le-leb c.args.self.kind 3 (omega arith))

pub returns-in_default : goal.returns-in_default
unfolding loads
returns-in_default c = simp (lt-leb c.args.self.kind 1 (omega arith), lt-leb c.args.self.kind 3 (omega arith))
