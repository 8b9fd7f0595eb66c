use Rattle.config.specs.Config.{pair_at}
use Rattle.config.proofs.Config.pair.Goals as goal

pub returns-then-present-at : goal.returns-then-present-at
unfolding pair_at
returns-then-present-at c = simp c.if-present-at.true

pub returns-then-present-self : goal.returns-then-present-self
unfolding pair_at
returns-then-present-self c = simp (c.if-present-at.false, c.if-present-self.true)

pub returns-else-present-self : goal.returns-else-present-self
unfolding pair_at
returns-else-present-self c = simp (c.if-present-at.false, c.if-present-self.false)
