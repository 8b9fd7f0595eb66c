use Rattle.answers.proofs.done.Goals as goal

pub returns : goal.returns
returns c = rw c.accepted.ensures
