-- The words where nothing is due.
use Rattle.figures.specs.Figures.{codes}
use Rattle.door_lines.specs.Rules.{due_line}
use Rattle.door_lines.proofs.rules.due.Goals as goal

pub returns-in-None : goal.returns-in-None
unfolding codes due_line
returns-in-None c = rw c.in-None.is c.text.ensures
