use native.Mathlib.Omega.{arith}
use Rattle.board.proofs.Outcomes.{all-refused, all-taken}
use Rattle.board.proofs.all.Goals as goal

pub returns-then-n-ne0 : goal.returns-then-n-ne0
returns-then-n-ne0 c = all-refused _ _ _ _ _ c.requires c.reach-x.ensures c.reach-y.ensures c.reach-z.ensures c.number.ensures c.number-2.ensures c.number-3.ensures c.lowest.ensures c.lowest-n.ensures c.if-n-ne0.true c.refused.ensures

pub with_all-board-requires : goal.with_all-board-requires
with_all-board-requires c = (c.requires, c.reach-x.ensures.valid, c.reach-y.ensures.valid, c.reach-z.ensures.valid)

pub returns : goal.returns
returns c = all-taken _ _ _ _ _ c.requires c.reach-x.ensures c.reach-y.ensures c.reach-z.ensures c.number.ensures c.number-2.ensures c.number-3.ensures c.lowest.ensures c.lowest-n.ensures (omega arith) c.with_all-board.ensures
