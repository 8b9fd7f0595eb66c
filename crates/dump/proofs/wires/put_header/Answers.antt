use Rattle.figures.proofs.Writing.{wrote_then}
use Rattle.figures.specs.Figures.{codes}
use Rattle.dump.specs.Pieces.{header_of}
use Rattle.dump.proofs.wires.put_header.Goals as goal

pub returns-clause-lines : goal.returns-clause-lines
unfolding header_of codes
returns-clause-lines c = wrote_then (wrote_then c.put-a.ensures c.var_lines-b.ensures.lines) c.put.ensures
