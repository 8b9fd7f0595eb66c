use Rattle.counter.specs.Modes.{source_at}
use Rattle.counter.proofs.Bounds.{in-wide, in-narrow}
use Rattle.counter.proofs.state.Timer.source_at.Goals as goal

pub bounds-i : goal.bounds-i
unfolding source_at
bounds-i c = in-wide c.requires c.if-wide.true

pub bounds-i-else-wide : goal.bounds-i-else-wide
unfolding source_at
bounds-i-else-wide c = in-narrow c.requires c.if-wide.false

pub returns-then-wide : goal.returns-then-wide
unfolding source_at
returns-then-wide c = rw c.if-wide.true

pub returns-else-wide : goal.returns-else-wide
unfolding source_at
returns-else-wide c = rw c.if-wide.false
