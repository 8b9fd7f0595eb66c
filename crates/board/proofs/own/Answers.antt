use Rattle.board.proofs.Outcomes.{own-zero, own-one, own-two}
use Rattle.board.proofs.own.Goals as goal

pub took-requires : goal.took-requires
took-requires c = (c.requires, c.call.ensures.valid)

pub took-requires-in-One : goal.took-requires-in-One
took-requires-in-One c = (c.requires, c.call-in-One.ensures.valid)

pub took-requires-in-Two : goal.took-requires-in-Two
took-requires-in-Two c = (c.requires, c.call-in-Two.ensures.valid)

pub returns-in-Zero : goal.returns-in-Zero
returns-in-Zero c = own-zero _ _ _ _ _ c.in-Zero.is c.call.ensures c.took.ensures

pub returns-in-One : goal.returns-in-One
returns-in-One c = own-one _ _ _ _ _ c.in-One.is c.call-in-One.ensures c.took-in-One.ensures

pub returns-in-Two : goal.returns-in-Two
returns-in-Two c = own-two _ _ _ _ _ c.in-Two.is c.call-in-Two.ensures c.took-in-Two.ensures
