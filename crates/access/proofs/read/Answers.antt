use Rattle.timer.proofs.Outcomes.{turned-away, sync-asked, kept, same_place, at_once, in-time, plainly}
use Rattle.answers.specs.Answers.{byte}
use Rattle.counter.specs.Registers.{read_timer, read_value}
use Rattle.timer.specs.declared.calls.Call.TheVariants as call
use Rattle.timer.specs.Calls.{asks, works, says, refusal_of}
use mathlib.Core.Path.{refl, sym, ap, ◌∙◌}
use Rattle.access.proofs.read.Goals as goal

pub refusal-n-requires : goal.refusal-n-requires
refusal-n-requires c = c.requires

pub returns-then-n-ne0 : goal.returns-then-n-ne0
unfolding refusal_of asks
returns-then-n-ne0 c = turned-away _ _ _ _ c.requires (rw (c.is_high-high.ensures, c.place-place.ensures) at c.refusal-n.ensures) c.if-n-ne0.true c.refused.ensures

pub returns-then-high : goal.returns-then-high
unfolding refusal_of asks works says
returns-then-high c = plainly _ _ _ _ (at_once _ _ _ _ c.requires (rw (c.is_high-high.ensures, c.place-place.ensures) at c.refusal-n.ensures) c.if-n-ne0.false refl (rw (← c.place-place.ensures, ← c.is_high-high.ensures, c.if-high.true))) c.read-r.result.timer (c.read-r.ensures.1 ∙ ap (read_timer c.args.t) c.place-place.ensures) refl (rw (← c.place-place.ensures, c.read-r.ensures.0)) refl c.done.ensures

pub sync-requires : goal.sync-requires
unfolding refusal_of asks
sync-requires c = sync-asked c.args.t (call.Read c.args.address) c.args.cycle.0 c.requires (sym (rw (c.is_high-high.ensures, c.place-place.ensures) at c.refusal-n.ensures) ∙ c.if-n-ne0.false) (rw (← c.place-place.ensures, ← c.is_high-high.ensures, c.if-high.false))

pub returns : goal.returns
unfolding refusal_of asks works says
returns c = plainly _ _ _ _ (in-time _ _ _ _ c.requires (rw (c.is_high-high.ensures, c.place-place.ensures) at c.refusal-n.ensures) c.if-n-ne0.false refl (rw (← c.place-place.ensures, ← c.is_high-high.ensures, c.if-high.false)) c.sync.ensures) c.read-r-2.result.timer (c.read-r-2.ensures.1 ∙ ap (read_timer c.sync.result) (same_place (kept _ _ c.sync.ensures) _ c.place-place.ensures)) refl (ap byte (c.read-r-2.ensures.0 ∙ ap (read_value c.sync.result) (same_place (kept _ _ c.sync.ensures) _ c.place-place.ensures))) refl c.done-2.ensures
