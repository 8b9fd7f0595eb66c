use Rattle.counter.specs.Halts.{reduced_to}
use Rattle.counter.proofs.state.Timer.reduced.Goals as goal

pub returns : goal.returns
unfolding reduced_to
returns c = simp (c.with_halts.ensures, c.reduce.ensures)
