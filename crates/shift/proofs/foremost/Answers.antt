use borrow.Author.Tests.{eq-eqb, ne_eqb}
use Rattle.shift.specs.Shift.{foremost}
use Rattle.shift.proofs.foremost.Goals as goal

pub returns-then-a-ne0 : goal.returns-then-a-ne0
unfolding foremost
returns-then-a-ne0 c = simp (ne_eqb _ _ c.if-a-ne0.true)

pub returns-then-b-ne0 : goal.returns-then-b-ne0
unfolding foremost
returns-then-b-ne0 c = simp (eq-eqb _ _ c.if-a-ne0.false, ne_eqb _ _ c.if-b-ne0.true)

pub returns-else-b-ne0 : goal.returns-else-b-ne0
unfolding foremost
returns-else-b-ne0 c = simp (eq-eqb _ _ c.if-a-ne0.false, eq-eqb _ _ c.if-b-ne0.false)
