-- `scheduler::Scheduler::cancel` meets its contract: where `next` is not recomputed, the event was not the earliest.
use mathlib.Core.Path.{◌∙◌}
use native.Mathlib.Omega.{arith}
use Rattle.events.proofs.Lists.{earliest-swap}
use Rattle.scheduler.proofs.Scheduler.cancel.Goals as goal

pub invariant_of-result-2 : goal.invariant_of-result-2
invariant_of-result-2 c =
    rw c.swap_remove-rest.ensures (c.self.invariant ∙ earliest-swap c.in-Some.place c.self.inside.events c.in-Some.ensures.within (rw (← c.get.ensures) (omega arith)))
