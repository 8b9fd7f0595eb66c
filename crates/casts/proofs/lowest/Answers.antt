use Rattle.casts.specs.Casts.{lowest}
use borrow.Author.Tests.{eq-eqb, ne_eqb}
use native.Mathlib.Omega.{arith}
use Rattle.casts.proofs.lowest.Goals as goal

pub returns-then-a-eq0 : goal.returns-then-a-eq0
unfolding lowest
returns-then-a-eq0 c = simp (eq-eqb _ _ c.if-a-eq0.true)

pub returns-then-b-eq0 : goal.returns-then-b-eq0
unfolding lowest
returns-then-b-eq0 c = simp (ne_eqb _ _ c.if-a-eq0.false, eq-eqb _ _ c.if-b-eq0.true)

pub returns-then-a-b : goal.returns-then-a-b
unfolding lowest
returns-then-a-b c = simp (ne_eqb _ _ c.if-a-eq0.false, ne_eqb _ _ c.if-b-eq0.false) (omega (arith, c.if-a-b.true))

pub returns-else-a-b : goal.returns-else-a-b
unfolding lowest
returns-else-a-b c = simp (ne_eqb _ _ c.if-a-eq0.false, ne_eqb _ _ c.if-b-eq0.false) (omega (arith, c.if-a-b.false))
