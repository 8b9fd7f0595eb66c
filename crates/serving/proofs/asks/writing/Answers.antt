use mathlib.Core.Path.{refl}
use Rattle.serving.proofs.asks.writing.Goals as goal

pub returns : goal.returns
returns c = rw (c.placed.ensures, c.is_high-high.ensures, c.immediate.ensures) refl
