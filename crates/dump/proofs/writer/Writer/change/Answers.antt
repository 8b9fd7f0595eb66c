use Rattle.std.proofs.Common.{rules, append-nil, ◌≡◌}
use Rattle.figures.proofs.Writing.{wrote_then}
use Rattle.verdict.specs.Changes.{change_of}
use Rattle.pieces.specs.Pieces.{kind_of}
use Rattle.dump.specs.Dump.{change_lines, value_line}
use Rattle.dump.proofs.writer.Writer.change.Goals as goal

pub returns-clause-lines : goal.returns-clause-lines
unfolding change_of change_lines value_line
returns-clause-lines c =
    let pin : kind_of c.args.whole ≡ 0 = search rules in
    rw (pin, ← c.cycle-cycle.ensures, append-nil) (wrote_then c.time_line-a.ensures.line c.value_line.ensures.line)
