use Rattle.counter.specs.Modes.{mode_of}
use Rattle.counter.proofs.state.Timer.mode.Goals as goal

pub returns : goal.returns
unfolding mode_of
returns c = c.mode_at.ensures
