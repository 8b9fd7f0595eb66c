use mathlib.Core.Path.{refl}
use Rattle.serving.proofs.asks.shut_asleep.Goals as goal

pub returns : goal.returns
returns c = rw c.turning.ensures refl
