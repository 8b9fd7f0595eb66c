use Rattle.answers.specs.Refusals.{late}
use Rattle.answers.proofs.refusals.late.Goals as goal

pub returns : goal.returns
unfolding late
returns c = c.refusal.ensures
