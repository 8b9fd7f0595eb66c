use Rattle.counter.specs.Modes.{held_of}
use Rattle.counter.proofs.state.Timer.held.Goals as goal

pub returns : goal.returns
unfolding held_of
returns c = c.hold.ensures
