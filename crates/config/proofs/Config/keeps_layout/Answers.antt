use Rattle.config.specs.Config.{layout_rule}
use Rattle.config.proofs.Config.keeps_layout.Goals as goal

pub returns-then-is_split : goal.returns-then-is_split
unfolding layout_rule
returns-then-is_split c = simp (← c.is_split.ensures, c.if-is_split.true)

pub returns-else-is_split : goal.returns-else-is_split
unfolding layout_rule
returns-else-is_split c = simp (← c.is_split.ensures, c.if-is_split.false)
