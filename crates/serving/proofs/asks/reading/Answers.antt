use mathlib.Core.Path.{refl}
use Rattle.serving.proofs.asks.reading.Goals as goal

pub returns : goal.returns
returns c = rw (c.placed.ensures, c.is_high-high.ensures) refl
