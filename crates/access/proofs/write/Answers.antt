use Rattle.timer.proofs.Outcomes.{or_left, turned-away, sync-asked, kept, same_place, written_is, at_once, in-time, filed}
use Prim.Native.Nat.{◌<◌}
use Rattle.timer.specs.declared.calls.Call.TheVariants as call
use Rattle.timer.specs.Calls.{asks, works, says, refusal_of}
use mathlib.Core.Path.{refl, sym, ◌∙◌}
use Rattle.access.proofs.write.Goals as goal

pub refusal-n-requires : goal.refusal-n-requires
refusal-n-requires c = c.requires

pub returns-then-n-ne0 : goal.returns-then-n-ne0
unfolding refusal_of asks
returns-then-n-ne0 c = turned-away _ _ _ _ c.requires (rw (c.is_high-high.ensures, c.place-place.ensures) at c.refusal-n.ensures) c.if-n-ne0.true c.refused.ensures

pub write-requires : goal.write-requires
write-requires c = c.requires

pub logged-requires : goal.logged-requires
logged-requires c = c.write.ensures.len

pub returns-then-high-place : goal.returns-then-high-place
unfolding refusal_of asks works says
returns-then-high-place c = let small : c.args.value < 256 = c.well_formed.1.1.0.1 in filed _ _ _ _ (at_once _ _ _ _ c.requires (rw (c.is_high-high.ensures, c.place-place.ensures) at c.refusal-n.ensures) c.if-n-ne0.false refl (rw (← c.place-place.ensures, ← c.is_high-high.ensures, ← c.immediate.ensures, c.if-high-place.true))) (written_is _ _ _ _ (small) c.place-place.ensures c.write.ensures) refl c.logged.ensures

pub sync-requires : goal.sync-requires
unfolding refusal_of asks
sync-requires c = sync-asked c.args.t (call.Write c.args.address c.args.value) c.args.cycle.0 c.requires (sym (rw (c.is_high-high.ensures, c.place-place.ensures) at c.refusal-n.ensures) ∙ c.if-n-ne0.false) (rw (← c.place-place.ensures, ← c.is_high-high.ensures, or_left c.is_high-high.result _ c.if-high-place.false))

pub write-requires-2 : goal.write-requires-2
write-requires-2 c = c.sync.ensures.2

pub logged-requires-2 : goal.logged-requires-2
logged-requires-2 c = c.write-2.ensures.len

pub returns : goal.returns
unfolding refusal_of asks works says
returns c = let small : c.args.value < 256 = c.well_formed.1.1.0.1 in filed _ _ _ _ (in-time _ _ _ _ c.requires (rw (c.is_high-high.ensures, c.place-place.ensures) at c.refusal-n.ensures) c.if-n-ne0.false refl (rw (← c.place-place.ensures, ← c.is_high-high.ensures, ← c.immediate.ensures, c.if-high-place.false)) c.sync.ensures) (written_is _ _ _ _ (small) (same_place (kept _ _ c.sync.ensures) _ c.place-place.ensures) c.write-2.ensures) refl c.logged-2.ensures
