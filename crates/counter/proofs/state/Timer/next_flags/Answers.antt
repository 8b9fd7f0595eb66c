use Rattle.counter.specs.Next.{next_flags}
use Rattle.counter.proofs.state.Timer.next_flags.Goals as goal

pub returns-then-running : goal.returns-then-running
unfolding next_flags
returns-then-running c = simp (← c.running.ensures, c.if-running.true, c.distance-d.ensures)

pub returns-else-running : goal.returns-else-running
unfolding next_flags
returns-else-running c = simp (← c.running.ensures, c.if-running.false)
