use Rattle.config.specs.Config.{width_rule}
use mathlib.Core.Path.{refl}
use Rattle.config.proofs.Config.keeps_width.Goals as goal

pub returns : goal.returns
unfolding width_rule
returns c = refl
