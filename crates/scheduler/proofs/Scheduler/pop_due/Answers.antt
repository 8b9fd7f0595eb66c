-- `scheduler::Scheduler::pop_due` meets its contract: no event stands at the earliest cycle only where none is held.
use mathlib.Core.Path.{sym, ◌∙◌}
use Rattle.std.proofs.Math.Bool.{and-false}
use borrow.Author.Tests.{lt-leb}
use Rattle.events.proofs.Lists.{foremost_none}
use Rattle.events.specs.Events.{earliest}
use Rattle.scheduler.specs.Scheduler.{popped}
use Rattle.scheduler.proofs.Scheduler.pop_due.Goals as goal
use Rattle.scheduler.proofs.Scheduler.pop_due.Goals.{then-self-now, else-self-now}

pub returns-in-None : goal.returns-in-None
unfolding popped
returns-in-None c =
    elim c.if-self-now.branch [
      | then-self-now w ↦ rw (lt-leb (earliest c.args.self) c.args.now (rw (← c.self.view_is, ← c.self.invariant) w.if-self-now.true))
      | else-self-now w ↦ let none = foremost_none c.args.self (rw (← c.self.view_is, ← c.self.invariant) (sym c.in-None.is ∙ w.due-is ∙ w.first_at-due.ensures.place)) in rw (none, and-false)
    ]
