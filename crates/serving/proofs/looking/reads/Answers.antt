use mathlib.Core.Path.{refl}
use Rattle.counter.specs.Registers.{read_value, read_timer}
use Rattle.serving.proofs.Works.{fills-low}
use Rattle.serving.proofs.looking.reads.Goals as goal

pub returns-then-place : goal.returns-then-place
unfolding read_value read_timer
returns-then-place c = rw (c.yielding.ensures, c.if-place.true, fills-low _ _ c.if-place.true) refl

pub returns-then-place-config : goal.returns-then-place-config
unfolding read_value read_timer
returns-then-place-config c = rw (c.yielding-w.ensures, c.peek.ensures, c.word.ensures, c.if-place.false, c.if-place-config.true) refl

pub returns-else-place-config : goal.returns-else-place-config
unfolding read_value read_timer
returns-else-place-config c = rw (c.yielding-w.ensures, c.peek.ensures, c.if-place.false, c.if-place-config.false) refl
