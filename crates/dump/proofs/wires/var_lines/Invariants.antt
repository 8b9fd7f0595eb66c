use Rattle.std.proofs.Common.{◌+◌, ◌*◌, ◌≤◌}
use Rattle.figures.specs.Figures.{Wrote}
use Rattle.dump.specs.Pieces.{vars_of}
use Rattle.dump.proofs.wires.var_lines.Given as goal

-- the lines of the pins below this one are written, at most 27 bytes each
abbrev pub invariant-loop-pin : goal.invariant-loop-pin
invariant-loop-pin l = record {
  lines : Wrote l.initial.out l.out l.from l.at (vars_of l.pins l.pin);
  room : l.at ≤ l.from + 27 * l.pin;
}
