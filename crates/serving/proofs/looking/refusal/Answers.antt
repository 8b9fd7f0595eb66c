use borrow.Author.Tests.{ne_eqb}
use Rattle.serving.specs.Looking.{refused_by}
use Rattle.serving.proofs.looking.refusal.Goals as goal

pub returns-then-n-ne0 : goal.returns-then-n-ne0
unfolding refused_by
returns-then-n-ne0 c = simp (← c.refusal-n.ensures, ne_eqb _ _ c.if-n-ne0.true)

pub returns-then-a : goal.returns-then-a
unfolding refused_by
returns-then-a c = simp (← c.refusal-n.ensures, c.if-n-ne0.false, c.if-a.true)

pub returns-then-a-2 : goal.returns-then-a-2
unfolding refused_by
returns-then-a-2 c = simp (← c.refusal-n.ensures, c.if-n-ne0.false, c.if-a.false, c.if-a-2.true)

pub returns-then-a-next : goal.returns-then-a-next
unfolding refused_by
returns-then-a-next c = simp (← c.refusal-n.ensures, c.if-n-ne0.false, c.if-a.false, c.if-a-2.false, c.if-a-next.true)

pub returns-then-a-3 : goal.returns-then-a-3
unfolding refused_by
returns-then-a-3 c = simp (← c.refusal-n.ensures, c.if-n-ne0.false, c.if-a.false, c.if-a-2.false, c.if-a-next.false, c.if-a-3.true)

pub returns-else-a-3 : goal.returns-else-a-3
unfolding refused_by
returns-else-a-3 c = simp (← c.refusal-n.ensures, c.if-n-ne0.false, c.if-a.false, c.if-a-2.false, c.if-a-next.false, c.if-a-3.false)
