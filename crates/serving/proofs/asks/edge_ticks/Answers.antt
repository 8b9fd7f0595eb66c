use mathlib.Core.Path.{sym, ◌∙◌}
use Rattle.timer.specs.Calls.{edge_ticks}
use Rattle.serving.proofs.asks.edge_ticks.Goals as goal

pub returns-then-is_pin : goal.returns-then-is_pin
unfolding edge_ticks
returns-then-is_pin c = rw (sym c.is_pin.ensures ∙ c.if-is_pin.true) c.ticks_on.ensures

pub returns-else-is_pin : goal.returns-else-is_pin
unfolding edge_ticks
returns-else-is_pin c = rw (sym c.is_pin.ensures ∙ c.if-is_pin.false)
