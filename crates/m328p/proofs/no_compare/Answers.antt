use Rattle.m328p.proofs.no_compare.Goals as goal

pub returns : goal.returns
returns c = rw c.no_wire.ensures
