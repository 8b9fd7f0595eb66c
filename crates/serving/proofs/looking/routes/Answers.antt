use mathlib.Core.Path.{refl}
use Rattle.serving.proofs.looking.routes.Goals as goal

pub returns-then-icr : goal.returns-then-icr
returns-then-icr c = rw (c.yielding-w.ensures, c.if-icr.true) refl

pub returns-else-icr : goal.returns-else-icr
returns-else-icr c = rw (c.yielding-w.ensures, c.if-icr.false) refl
