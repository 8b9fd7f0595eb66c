use mathlib.Core.Path.{sym, ◌∙◌}
use Rattle.answers.specs.Refusals.{is_due}
use Rattle.answers.proofs.refusals.is_due.Goals as goal

pub next_cycle-at-requires : goal.next_cycle-at-requires
next_cycle-at-requires c = (c.requires, sym c.running.ensures ∙ c.if-running.true)

pub returns-then-running : goal.returns-then-running
unfolding is_due
returns-then-running c = simp (← c.running.ensures, c.if-running.true, ← c.next_cycle-at.ensures)

pub returns-else-running : goal.returns-else-running
unfolding is_due
returns-else-running c = simp (← c.running.ensures, c.if-running.false)
