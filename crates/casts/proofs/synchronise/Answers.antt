use Rattle.casts.proofs.Reaches.{tsm-refused, both-taken, reset-refused}
use Rattle.casts.proofs.synchronise.Goals as goal

pub returns-then-number-ne0 : goal.returns-then-number-ne0
returns-then-number-ne0 c = tsm-refused _ _ _ _ _ c.tsm-x.ensures c.number.ensures c.if-number-ne0.true

pub returns-then-n-ne0 : goal.returns-then-n-ne0
returns-then-n-ne0 c = reset-refused _ _ _ _ _ c.tsm-x.ensures c.number.ensures c.if-number-ne0.false c.prescale-y.ensures c.number-n.ensures c.requires c.if-n-ne0.true c.refused.ensures

pub returns : goal.returns
returns c = both-taken _ _ _ _ _ c.tsm-x.ensures c.number.ensures c.if-number-ne0.false c.prescale-y.ensures c.number-n.ensures c.if-n-ne0.false
