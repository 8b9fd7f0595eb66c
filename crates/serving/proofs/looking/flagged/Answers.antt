use mathlib.Core.Path.{refl}
use Rattle.serving.proofs.looking.flagged.Goals as goal

pub returns : goal.returns
returns c = rw c.yielding-w.ensures refl
