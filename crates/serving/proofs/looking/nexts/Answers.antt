use mathlib.Core.Path.{refl}
use borrow.Author.Tests.{eq-eqb, ne_eqb}
use Rattle.serving.proofs.looking.nexts.Goals as goal

pub returns-then-next-eq-NEVER : goal.returns-then-next-eq-NEVER
returns-then-next-eq-NEVER c = rw (c.yielding.ensures, eq-eqb _ _ c.if-next-eq-NEVER.true) refl

pub returns-else-next-eq-NEVER : goal.returns-else-next-eq-NEVER
returns-else-next-eq-NEVER c = rw (c.yielding-else-next-eq-NEVER.ensures, ne_eqb _ _ c.if-next-eq-NEVER.false) refl
