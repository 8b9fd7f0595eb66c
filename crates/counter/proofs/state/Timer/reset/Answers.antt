use Rattle.counter.specs.Halts.{reset_at}
use Rattle.counter.specs.Fresh.{fresh_of}
use Rattle.counter.proofs.state.Timer.reset.Goals as goal

pub returns : goal.returns
unfolding fresh_of reset_at
returns c = rw c.fresh-t.ensures at c.driven.ensures
