use Rattle.board.proofs.Outcomes.{took-none, took_it}
use Rattle.board.proofs.took.Goals as goal

pub returns-then-number-ne0 : goal.returns-then-number-ne0
returns-then-number-ne0 c = took-none _ _ _ c.number.ensures c.of-written.ensures c.requires.0 c.if-number-ne0.true

pub returns : goal.returns
returns c = took_it _ _ _ c.number.ensures c.of-written.ensures c.if-number-ne0.false c.with-board.ensures
