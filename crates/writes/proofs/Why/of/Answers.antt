use Rattle.writes.proofs.Why.of.Goals as goal

pub returns-in-Refused : goal.returns-in-Refused
returns-in-Refused c = rw c.in-Refused.is

pub returns-in-Paused : goal.returns-in-Paused
returns-in-Paused c = rw c.in-Paused.is
