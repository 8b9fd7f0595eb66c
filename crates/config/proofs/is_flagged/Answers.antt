use Rattle.config.specs.Config.{flagged}
use Rattle.config.proofs.is_flagged.Goals as goal

pub returns-then-present : goal.returns-then-present
unfolding flagged
returns-then-present c = simp (← c.is_one_bit.ensures, c.if-present.true)

pub returns-else-present : goal.returns-else-present
unfolding flagged
returns-else-present c = simp c.if-present.false
