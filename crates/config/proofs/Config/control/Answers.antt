use borrow.Author.Tests.{eq-eqb, ne_eqb}
use Rattle.config.specs.Config.{control_at}
use Rattle.config.proofs.Config.control.Goals as goal

pub returns-then-address-self : goal.returns-then-address-self
unfolding control_at
returns-then-address-self c = simp (eq-eqb _ _ c.if-address-self.true)

pub returns-then-address-self-2 : goal.returns-then-address-self-2
unfolding control_at
returns-then-address-self-2 c = simp (ne_eqb _ _ c.if-address-self.false, eq-eqb _ _ c.if-address-self-2.true)

pub returns-then-address-self-3 : goal.returns-then-address-self-3
unfolding control_at
returns-then-address-self-3 c = simp (ne_eqb _ _ c.if-address-self.false, ne_eqb _ _ c.if-address-self-2.false, eq-eqb _ _ c.if-address-self-3.true)

pub returns-else-address-self-3 : goal.returns-else-address-self-3
unfolding control_at
returns-else-address-self-3 c = simp (ne_eqb _ _ c.if-address-self.false, ne_eqb _ _ c.if-address-self-2.false, ne_eqb _ _ c.if-address-self-3.false)
