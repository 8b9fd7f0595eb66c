use Rattle.counter.specs.Modes.{fixed_at}
use Rattle.counter.proofs.Bounds.{in-wide, in-narrow}
use Rattle.counter.proofs.state.Timer.fixed_at.Goals as goal

pub bounds-i : goal.bounds-i
unfolding fixed_at
bounds-i c = in-wide c.requires c.if-wide.true

pub bounds-i-else-wide : goal.bounds-i-else-wide
unfolding fixed_at
bounds-i-else-wide c = in-narrow c.requires c.if-wide.false

pub returns-then-wide : goal.returns-then-wide
unfolding fixed_at
returns-then-wide c = rw c.if-wide.true

pub returns-else-wide : goal.returns-else-wide
unfolding fixed_at
returns-else-wide c = rw c.if-wide.false
