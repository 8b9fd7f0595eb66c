use Rattle.renewing.specs.Resets.{cleared_of}
use Rattle.renewing.proofs.resets.cleared.Goals as goal

pub returns : goal.returns
unfolding cleared_of
returns c = simp (c.of-3.ensures, c.of-2.ensures, c.of.ensures)
