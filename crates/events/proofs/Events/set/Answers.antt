-- `events::Events::set` meets its contract: the store is one in the list.
use Rattle.events.proofs.Places.{set-kept}
use Rattle.events.proofs.Events.set.Goals as goal

pub invariant_of-self : goal.invariant_of-self
invariant_of-self c = (set-kept c.self.invariant c.args.i c.args.event (rw c.self.view_is c.requires)).1

pub returns : goal.returns
returns c = rw (← c.self.view_is) (set-kept c.self.invariant c.args.i c.args.event (rw c.self.view_is c.requires)).0
