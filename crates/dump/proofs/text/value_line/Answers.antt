use Rattle.figures.specs.Figures.{codes}
use Rattle.dump.proofs.text.value_line.Goals as goal

pub returns-clause-line : goal.returns-clause-line
unfolding codes
returns-clause-line c = rw (← c.state.ensures) c.around.ensures
