use Rattle.std.proofs.Common.{arith, ne_eqb, le-leb}
use borrow.Author.Tests.{lt-leb}
use Rattle.wave.specs.Count.{overflows}
use Rattle.wave.proofs.kinds.Wave.overflows.Goals as goal

pub returns-in-2 : goal.returns-in-2
unfolding overflows
returns-in-2 c = simp c.in-2.is

pub returns-in-0-to-1 : goal.returns-in-0-to-1
unfolding overflows
returns-in-0-to-1 c = simp (le-leb c.args.self.kind 1 (omega arith))

pub returns-in_default : goal.returns-in_default
unfolding overflows
returns-in_default c = simp (lt-leb c.args.self.kind 1 (omega arith), ne_eqb _ _ c.in_default.in_default-own.rest.1)
