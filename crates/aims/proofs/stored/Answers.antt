use Rattle.aims.specs.Aims.{stored_of}
use borrow.Author.Tests.{lt-ltb, le-ltb}
use Rattle.aims.proofs.stored.Goals as goal

pub returns-then-value-lt128 : goal.returns-then-value-lt128
unfolding stored_of
returns-then-value-lt128 c = simp (lt-ltb _ _ c.if-value-lt128.true)

pub returns-else-value-lt128 : goal.returns-else-value-lt128
unfolding stored_of
returns-else-value-lt128 c = simp (le-ltb _ _ c.if-value-lt128.false)
