use Rattle.m328p.specs.Places.{is_of}
use Rattle.m328p.proofs.is_of.Goals as goal

pub returns : goal.returns
unfolding is_of
returns c = rw c.place.ensures
