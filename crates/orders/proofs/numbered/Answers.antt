use Rattle.orders.proofs.numbered.Goals as goal

pub returns : goal.returns
returns c =
    rw (c.flags_of.ensures, c.of-r.ensures, c.told_of-two.ensures, c.told_of-one.ensures, c.told_of-zero.ensures)
