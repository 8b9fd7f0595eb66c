use Rattle.climbing.specs.Rise.{strikes_of}
use Rattle.climbing.proofs.strikes.Goals as goal

pub returns : goal.returns
unfolding strikes_of
returns c = simp (c.refusing.ensures, c.dual_slope.ensures)
