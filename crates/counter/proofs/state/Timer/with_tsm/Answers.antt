use Rattle.counter.specs.Halts.{tsm_to}
use Rattle.counter.proofs.state.Timer.with_tsm.Goals as goal

pub returns : goal.returns
unfolding tsm_to
returns c = simp (c.with_clock.ensures, c.released.ensures, c.with_halts.ensures, c.with_tsm.ensures)
