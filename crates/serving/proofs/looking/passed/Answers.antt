use mathlib.Core.Path.{refl}
use Rattle.serving.specs.Looking.{passed_of}
use Rattle.serving.proofs.looking.passed.Goals as goal

pub stilling-s-requires : goal.stilling-s-requires
stilling-s-requires c = c.requires c.if-syncs.true

pub returns-then-syncs : goal.returns-then-syncs
unfolding passed_of
returns-then-syncs c = rw (c.if-syncs.true, c.stilling-s.ensures) refl

pub returns-else-syncs : goal.returns-else-syncs
unfolding passed_of
returns-else-syncs c = rw c.if-syncs.false refl
