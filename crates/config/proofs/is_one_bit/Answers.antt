use Rattle.config.specs.Config.{one_bit}
use mathlib.Core.Path.{refl}
use Rattle.config.proofs.is_one_bit.Goals as goal

pub returns : goal.returns
unfolding one_bit
returns c = refl
