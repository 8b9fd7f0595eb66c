use Rattle.counter.specs.Halts.{awake_at}
use Rattle.counter.proofs.state.Timer.awake.Goals as goal

pub returns : goal.returns
unfolding awake_at
returns c = simp (c.with_clock.ensures, c.woken.ensures, c.with_halts.ensures, c.wake.ensures)
