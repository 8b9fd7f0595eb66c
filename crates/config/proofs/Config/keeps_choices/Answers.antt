use mathlib.Core.Path.{refl}
use Rattle.config.specs.Config.{choice_rule}
use Rattle.config.proofs.Config.keeps_choices.Goals as goal

pub returns : goal.returns
unfolding choice_rule
returns c = refl
