use Rattle.counter.specs.Halts.{asleep_at}
use Rattle.counter.proofs.state.Timer.asleep.Goals as goal

pub returns : goal.returns
unfolding asleep_at
returns c = simp (c.with_halts.ensures, c.sleep.ensures)
