use borrow.Author.Tests.{ne_eqb}
use Rattle.held.specs.Quick.{nexting}
use Rattle.held.proofs.quick.nexting.Goals as goal

pub returns-then-next-eq-NEVER : goal.returns-then-next-eq-NEVER
unfolding nexting
returns-then-next-eq-NEVER c = simp (c.if-next-eq-NEVER.true, c.answering.ensures)

pub returns-else-next-eq-NEVER : goal.returns-else-next-eq-NEVER
unfolding nexting
returns-else-next-eq-NEVER c = simp (ne_eqb _ _ c.if-next-eq-NEVER.false, c.answering-else-next-eq-NEVER.ensures)
