use Rattle.counter.specs.Registers.{packed}
use mathlib.Core.Path.{refl}
use Rattle.reading.proofs.packed.Goals as goal

pub returns : goal.returns
unfolding packed
returns c = refl
