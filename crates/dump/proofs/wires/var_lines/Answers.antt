use Rattle.std.proofs.Common.{arith, add-one, append-nil}
use Rattle.figures.proofs.Writing.{wrote_none, wrote_then}
use Rattle.dump.specs.Pieces.{vars_of}
use Rattle.dump.proofs.wires.var_lines.Goals as goal
use Rattle.dump.proofs.wires.var_lines.Goals.{then-driven, else-driven}

pub loop-pin-init : goal.loop-pin-init
unfolding vars_of
loop-pin-init c = record { lines = wrote_none _ _; room = omega arith }

pub loop-pin-preserved : goal.loop-pin-preserved
unfolding vars_of
loop-pin-preserved c =
    elim c.if-driven.branch [
      | then-driven w ↦ record {
        lines = rw (add-one c.loop-pin.pin, w.if-driven.true, w.out-is, w.at-is) (wrote_then c.loop-pin.invariant.lines w.var_line-at.ensures.line);
        room = omega arith;
      }
      | else-driven w ↦ record { lines = rw (add-one c.loop-pin.pin, w.if-driven.false, w.out-is, w.at-is, append-nil) c.loop-pin.invariant.lines; room = omega arith }
    ]
