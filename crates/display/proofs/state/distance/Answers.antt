-- The parts are put one after the other.
use Rattle.page.specs.Page.{Puts}
use Rattle.tick.specs.declared.distance.Distance.{Distance}
use mathlib.Core.Path.{subst}
use Rattle.display.specs.States.{distance_line}
use Rattle.figures.specs.Figures.{codes}
use Rattle.page.proofs.Sheets.{then}
use Rattle.display.proofs.state.distance.Goals as goal

pub returns : goal.returns
unfolding codes distance_line
returns c = subst (λ (d : Distance). Puts c.args.page.now c.number-2.new.self (distance_line d)) c.distance-d.ensures (then (then c.number.ensures c.register.ensures) c.number-2.ensures)
