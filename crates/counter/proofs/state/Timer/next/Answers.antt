use mathlib.Core.Path.{sym, ◌∙◌}
use Rattle.counter.specs.Next.{next_of}
use Rattle.counter.proofs.state.Timer.next.Goals as goal

pub next_cycle-requires : goal.next_cycle-requires
next_cycle-requires c = (c.requires, sym c.running.ensures ∙ c.if-running.true)

pub returns-then-running : goal.returns-then-running
unfolding next_of
returns-then-running c = simp (← c.running.ensures, c.if-running.true, c.distance-d.ensures, ← c.next_cycle.ensures)

pub returns-else-running : goal.returns-else-running
unfolding next_of
returns-else-running c = simp (← c.running.ensures, c.if-running.false)
