-- The reasons that have a number.
use Rattle.figures.specs.Figures.{codes}
use Rattle.list_lines.specs.Lists.{reason_of}
use Rattle.list_lines.proofs.worked.reason.Goals as goal

pub returns-in-Refused : goal.returns-in-Refused
unfolding codes reason_of
returns-in-Refused c = rw c.in-Refused.is c.number.ensures

pub returns-in-Paused : goal.returns-in-Paused
unfolding codes reason_of
returns-in-Paused c = rw c.in-Paused.is c.number-in-Paused.ensures
