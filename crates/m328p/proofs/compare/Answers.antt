use Rattle.m328p.proofs.compare.Goals as goal

pub returns : goal.returns
returns c = rw c.wire.ensures
