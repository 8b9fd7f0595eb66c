use Rattle.counter.specs.Fresh.{fresh_of}
use Rattle.counter.proofs.state.Timer.fresh.Goals as goal

pub returns : goal.returns
unfolding fresh_of
returns c = simp c.none.ensures
