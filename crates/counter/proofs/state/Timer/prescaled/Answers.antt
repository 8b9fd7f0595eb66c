use Rattle.counter.specs.Halts.{prescaled_at}
use Rattle.counter.proofs.state.Timer.prescaled.Goals as goal

pub returns : goal.returns
unfolding prescaled_at
returns c = simp (c.with_clock.ensures, c.restarted.ensures)
