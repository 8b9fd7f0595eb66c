use Rattle.replies.proofs.Listed.{ends}
use Rattle.replies.proofs.lists.listed.Goals as goal

pub holding-c-requires : goal.holding-c-requires
holding-c-requires c = c.writes-w.ensures.told.valid

pub returns : goal.returns
returns c = ends _ _ _ _ _ c.writes-w.ensures c.answer_of-answer.ensures c.holding-c.ensures
