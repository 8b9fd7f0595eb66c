use Rattle.counter.specs.Modes.{running_of}
use Rattle.counter.proofs.state.Timer.running.Goals as goal

pub returns : goal.returns
unfolding running_of
returns c = simp (c.divisor.ensures, c.held.ensures)
