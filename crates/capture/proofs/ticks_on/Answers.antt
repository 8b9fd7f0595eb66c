use Rattle.counter.specs.Capture.{ticks_on}
use Rattle.capture.proofs.ticks_on.Goals as goal

pub returns : goal.returns
unfolding ticks_on
returns c = simp (c.chosen.ensures, c.held.ensures)
