use Rattle.std.proofs.Common.{◌++◌}
use Rattle.figures.proofs.Writing.{wrote_then, wrote-regroup}
use Rattle.figures.specs.Figures.{codes, text, decimal}
use Rattle.dump.specs.Dump.{var_line}
use Rattle.dump.proofs.text.var_line.Goals as goal

pub returns-clause-line : goal.returns-clause-line
unfolding var_line codes
returns-clause-line c =
    wrote-regroup (text "$var wire 1 p" ++ decimal c.args.pin ++ text " p") (decimal c.args.pin) (text " $end\n") (wrote_then c.around-a.ensures c.around.ensures)
