use Rattle.std.proofs.Common.{le-leb}
use borrow.Author.Tests.{lt-leb}
use Rattle.wave.specs.Distance.{space}
use Rattle.wave.proofs.kinds.Wave.space.Goals as goal

pub returns-then-down : goal.returns-then-down
unfolding space
returns-then-down c = simp c.if-down.true

pub returns-then-count-top : goal.returns-then-count-top
unfolding space
returns-then-count-top c = simp (c.if-down.false, le-leb _ _ c.if-count-top.true)

pub returns-else-count-top : goal.returns-else-count-top
unfolding space
returns-else-count-top c = simp (c.if-down.false, lt-leb _ _ c.if-count-top.false)
