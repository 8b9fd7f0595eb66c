use Rattle.counter.specs.Modes.{max_at}
use Rattle.counter.proofs.state.Timer.max_at.Goals as goal

pub returns-then-wide : goal.returns-then-wide
unfolding max_at
returns-then-wide c = simp c.if-wide.true

pub returns-else-wide : goal.returns-else-wide
unfolding max_at
returns-else-wide c = simp c.if-wide.false
