use Rattle.figures.proofs.Writing.{wrote_then}
use Rattle.figures.specs.Figures.{codes}
use Rattle.dump.specs.Dump.{time_line}
use Rattle.dump.proofs.text.time_line.Goals as goal

pub returns-clause-line : goal.returns-clause-line
unfolding time_line codes
returns-clause-line c = rw (← c.eq.ensures, c.if-eq.false) (wrote_then (wrote_then c.put-a.ensures c.time-b.ensures) c.put.ensures)
