-- An advance that paused has its own words.
use Rattle.figures.specs.Figures.{codes}
use Rattle.wdt_lines.specs.Shown.{said_of}
use Rattle.wdt_lines.proofs.shown.said.Goals as goal

pub returns-in-Paused : goal.returns-in-Paused
unfolding codes said_of
returns-in-Paused c = rw c.in-Paused.is c.number.ensures
