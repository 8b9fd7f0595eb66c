use Rattle.counter.specs.Passage.{sync_to}
use Rattle.counter.proofs.state.Timer.synced.Goals as goal

pub returns : goal.returns
unfolding sync_to
returns c = simp c.synced-t.ensures
