-- An advance that paused has its own words.
use Rattle.display.specs.Answers.{said_of}
use Rattle.figures.specs.Figures.{codes}
use Rattle.display.proofs.answer.said.Goals as goal

pub returns-in-Paused : goal.returns-in-Paused
unfolding codes said_of
returns-in-Paused c = rw c.in-Paused.is c.number-in-Paused.ensures
