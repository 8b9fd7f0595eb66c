use Rattle.counter.specs.Halts.{halting}
use mathlib.Core.Path.{refl}
use Rattle.counter.proofs.state.Timer.halts_in.Goals as goal

pub returns : goal.returns
unfolding halting
returns c = refl
