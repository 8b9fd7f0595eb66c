use Rattle.counter.specs.Halts.{routed_to}
use Rattle.counter.proofs.state.Timer.routed.Goals as goal

pub returns : goal.returns
unfolding routed_to
returns c = simp (c.with_halts.ensures, c.route.ensures)
