use Rattle.replies.proofs.lists.answer_of.Goals as goal

pub returns-in-Paused : goal.returns-in-Paused
returns-in-Paused c = rw c.in-Paused.is

pub returns-in-Refused : goal.returns-in-Refused
returns-in-Refused c = rw c.in-Refused.is
