-- The parts are put one after the other.
use Rattle.figures.specs.Figures.{codes}
use Rattle.page.proofs.Sheets.{then}
use Rattle.pin_lines.specs.PinLines.{resolved_line}
use Rattle.pin_lines.proofs.resolved.Goals as goal

pub returns : goal.returns
unfolding resolved_line codes
returns c = then (then (then c.number.ensures (rw c.pattern.ensures at c.sixteen.ensures)) c.bit.ensures) c.bit-2.ensures
