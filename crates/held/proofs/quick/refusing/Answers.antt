use borrow.Author.Tests.{ne_eqb}
use Rattle.held.specs.Quick.{refusing}
use Rattle.held.proofs.quick.refusing.Goals as goal

pub returns-then-n-ne0 : goal.returns-then-n-ne0
unfolding refusing
returns-then-n-ne0 c = simp (← c.refusal-n.ensures, ne_eqb _ _ c.if-n-ne0.true)

pub returns-then-tested-next : goal.returns-then-tested-next
unfolding refusing
returns-then-tested-next c = simp (← c.refusal-n.ensures, c.if-n-ne0.false, c.if-tested-next.true)

pub returns-else-tested-next : goal.returns-else-tested-next
unfolding refusing
returns-else-tested-next c = simp (← c.refusal-n.ensures, c.if-n-ne0.false, c.if-tested-next.false)
