use Rattle.config.specs.Config.{compare_rule}
use Rattle.config.proofs.Config.keeps_compares.Goals as goal

pub returns-then-is_bare : goal.returns-then-is_bare
unfolding compare_rule
returns-then-is_bare c = simp (← c.is_bare.ensures, c.if-is_bare.true)

pub returns-else-is_bare : goal.returns-else-is_bare
unfolding compare_rule
returns-else-is_bare c = simp (← c.is_bare.ensures, c.if-is_bare.false)
