use Rattle.counter.specs.Capture.{captures}
use Rattle.capture.proofs.captures.Goals as goal

pub returns : goal.returns
unfolding captures
returns c = simp (c.source_at-source.ensures, c.mode.ensures.0)
