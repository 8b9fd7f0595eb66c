-- `events::Events::push` meets its contract: the store is at the first blank.
use Rattle.events.proofs.Places.{push-kept}
use Rattle.events.proofs.Events.push.Goals as goal

pub invariant_of-self : goal.invariant_of-self
invariant_of-self c = (push-kept c.self.invariant c.args.event (rw c.self.view_is c.requires)).1
