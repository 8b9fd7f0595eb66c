use Rattle.aims.proofs.written.Goals as goal

pub returns : goal.returns
returns c = rw (c.casting.ensures, c.stored.ensures) at c.at.ensures
