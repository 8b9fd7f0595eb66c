use Rattle.timer.proofs.Outcomes.{turned-away, sync-asked, kept, in-time, plainly}
use Rattle.timer.specs.declared.calls.Call.TheVariants as call
use Rattle.timer.specs.Calls.{asks, works, says, refusal_of}
use mathlib.Core.Path.{refl, sym, ◌∙◌}
use Rattle.access.proofs.peek.Goals as goal

pub refusal-n-requires : goal.refusal-n-requires
refusal-n-requires c = c.requires

pub returns-then-n-ne0 : goal.returns-then-n-ne0
unfolding refusal_of asks
returns-then-n-ne0 c = turned-away _ _ _ _ c.requires (rw c.place-place.ensures at c.refusal-n.ensures) c.if-n-ne0.true c.refused.ensures

pub sync-s-requires : goal.sync-s-requires
unfolding refusal_of asks
sync-s-requires c = sync-asked c.args.t (call.Peek c.args.address) c.args.cycle.0 c.requires (sym (rw c.place-place.ensures at c.refusal-n.ensures) ∙ c.if-n-ne0.false) refl

pub returns : goal.returns
unfolding refusal_of asks works says
returns c = plainly _ _ _ _ (in-time _ _ _ _ c.requires (rw c.place-place.ensures at c.refusal-n.ensures) c.if-n-ne0.false refl refl c.sync-s.ensures) _ refl refl (rw (c.peek.ensures, c.place-place.ensures, (kept _ _ c.sync-s.ensures).config)) refl c.done.ensures
