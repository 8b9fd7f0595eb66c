use Rattle.timer.proofs.Outcomes.{turned-away, sync-asked, tick-asked, kept, same-edge, at_once, in-time, plainly, filed}
use Rattle.timer.specs.Calls.{edge_captures, edge_ticks}
use Rattle.timer.specs.declared.calls.Call.TheVariants as call
use Rattle.timer.specs.Calls.{asks, works, says, refusal_of}
use mathlib.Core.Path.{refl, sym, ◌∙◌}
use Rattle.dispatch.proofs.edge.Goals as goal

pub refusal-n-requires : goal.refusal-n-requires
refusal-n-requires c = c.requires

pub returns-then-n-ne0 : goal.returns-then-n-ne0
unfolding refusal_of asks
returns-then-n-ne0 c = turned-away _ _ _ _ c.requires c.refusal-n.ensures c.if-n-ne0.true c.refused.ensures

pub sync-requires : goal.sync-requires
unfolding refusal_of asks
sync-requires c = sync-asked c.args.t (call.Edge c.args.pin c.args.level) c.args.cycle.0 c.requires (sym c.refusal-n.ensures ∙ c.if-n-ne0.false) refl

pub logged-requires : goal.logged-requires
logged-requires c = c.captured.ensures.len

pub returns-then-is_pin-halts : goal.returns-then-is_pin-halts
unfolding refusal_of asks works says edge_captures
returns-then-is_pin-halts c = filed _ _ _ _ (in-time _ _ _ _ c.requires c.refusal-n.ensures c.if-n-ne0.false refl (rw (← c.is_pin.ensures, ← c.captures-2.ensures, c.if-is_pin-halts.true)) c.sync.ensures) (rw (same-edge (kept _ _ c.sync.ensures), edge_captures, ← c.is_pin.ensures, ← c.captures-2.ensures, c.if-is_pin-halts.true) c.captured.ensures) refl c.logged.ensures

pub tick-requires : goal.tick-requires
unfolding refusal_of asks
tick-requires c = tick-asked c.args.t (call.Edge c.args.pin c.args.level) c.args.cycle.0 c.requires (sym c.refusal-n.ensures ∙ c.if-n-ne0.false) c.synced.ensures

pub logged-requires-then-is_pin-ticks_on : goal.logged-requires-then-is_pin-ticks_on
logged-requires-then-is_pin-ticks_on c = c.tick.ensures.len

pub returns-then-is_pin-ticks_on : goal.returns-then-is_pin-ticks_on
unfolding refusal_of asks works says edge_captures edge_ticks
returns-then-is_pin-ticks_on c = filed _ _ _ _ (at_once _ _ _ _ c.requires c.refusal-n.ensures c.if-n-ne0.false refl (rw (← c.is_pin.ensures, ← c.captures-2.ensures, c.if-is_pin-halts.false))) (rw (← c.is_pin.ensures, ← c.captures-2.ensures, c.if-is_pin-halts.false, ← c.is_pin-2.ensures, ← c.ticks_on.ensures, c.if-is_pin-ticks_on.true, ← c.synced.ensures) c.tick.ensures) refl c.logged-then-is_pin-ticks_on.ensures

pub returns : goal.returns
unfolding refusal_of asks works says edge_captures edge_ticks
returns c = plainly _ _ _ _ (at_once _ _ _ _ c.requires c.refusal-n.ensures c.if-n-ne0.false refl (rw (← c.is_pin.ensures, ← c.captures-2.ensures, c.if-is_pin-halts.false))) c.args.t (rw (← c.is_pin.ensures, ← c.captures-2.ensures, c.if-is_pin-halts.false, ← c.is_pin-2.ensures, ← c.ticks_on.ensures, c.if-is_pin-ticks_on.false)) (rw (← c.is_pin.ensures, ← c.captures-2.ensures, c.if-is_pin-halts.false, ← c.is_pin-2.ensures, ← c.ticks_on.ensures, c.if-is_pin-ticks_on.false)) refl refl c.done.ensures
