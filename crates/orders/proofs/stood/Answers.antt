use Rattle.orders.proofs.stood.Goals as goal

pub returns : goal.returns
returns c = rw c.of-r.ensures
