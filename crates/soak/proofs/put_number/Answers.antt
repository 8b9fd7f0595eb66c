use Rattle.std.proofs.Common.{arith}
use Rattle.figures.proofs.Writing.{wrote_then, decimal-length}
use Rattle.figures.specs.Figures.{codes}
use Rattle.soak.specs.Files.{number_line}
use Rattle.soak.proofs.put_number.Goals as goal

pub number-n-requires : goal.number-n-requires
number-n-requires c = omega (arith, decimal-length 2 c.number.result (omega arith), c.requires)

pub put-requires : goal.put-requires
put-requires c = omega (arith, decimal-length 2 c.number.result (omega arith), c.requires, c.number-n.ensures.place, c.number-n.auto.out)

pub returns-clause-line : goal.returns-clause-line
unfolding number_line codes
returns-clause-line c = rw (← c.number.ensures) (wrote_then c.number-n.ensures c.put.ensures)

pub returns-clause-room : goal.returns-clause-room
returns-clause-room c = omega (arith, decimal-length 2 c.number.result (omega arith), c.number-n.ensures.place, c.put.ensures.place)
