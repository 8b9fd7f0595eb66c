-- `events::Events::swap_remove` meets its contract: the last event is stored at i, and a blank in its place.
use Rattle.events.proofs.Places.{swap-kept}
use Rattle.events.proofs.Events.swap_remove.Goals as goal

pub invariant_of-self : goal.invariant_of-self
invariant_of-self c = (swap-kept c.self.invariant c.args.i (rw c.self.view_is c.requires)).1

pub returns : goal.returns
returns c = rw (← c.self.view_is) (swap-kept c.self.invariant c.args.i (rw c.self.view_is c.requires)).0
