use borrow.Author.Tests.{ne_eqb}
use Rattle.held.specs.Quick.{answering}
use Rattle.held.proofs.quick.answering.Goals as goal

pub returns-then-n-ne0 : goal.returns-then-n-ne0
unfolding answering
returns-then-n-ne0 c = simp (← c.refusing-n.ensures, ne_eqb _ _ c.if-n-ne0.true, c.new.ensures)

pub returns-else-n-ne0 : goal.returns-else-n-ne0
unfolding answering
returns-else-n-ne0 c = simp (← c.refusing-n.ensures, c.if-n-ne0.false, c.new-else-n-ne0.ensures)
