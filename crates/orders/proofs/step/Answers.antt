use Rattle.orders.proofs.Obeyed.{obeys}
use Rattle.orders.proofs.step.Goals as goal

pub numbered-requires : goal.numbered-requires
numbered-requires c = c.any.ensures.valid

pub returns : goal.returns
returns c = obeys _ _ _ _ _ _ c.any.ensures c.numbered.ensures
