use Rattle.writes.proofs.stops.Goals as goal

pub returns-in-Refused : goal.returns-in-Refused
returns-in-Refused c = rw c.in-Refused.is

pub returns-in-Done : goal.returns-in-Done
returns-in-Done c = rw c.in-Done.is

pub returns-in-Value : goal.returns-in-Value
returns-in-Value c = rw c.in-Value.is

pub returns-in-Next : goal.returns-in-Next
returns-in-Next c = rw c.in-Next.is

pub returns-in-Reached : goal.returns-in-Reached
returns-in-Reached c = rw c.in-Reached.is

pub returns-in-Paused : goal.returns-in-Paused
returns-in-Paused c = rw c.in-Paused.is
