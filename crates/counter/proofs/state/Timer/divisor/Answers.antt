use Rattle.counter.specs.Modes.{divisor_of}
use Rattle.counter.proofs.state.Timer.divisor.Goals as goal

pub returns : goal.returns
unfolding divisor_of
returns c = c.divisor_at.ensures
