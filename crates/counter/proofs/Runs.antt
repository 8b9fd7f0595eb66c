-- Sync and advance, tick by tick and by events.
use Prim.Native.Nat.{ℕ}
use mathlib.Core.Path.{◌≡◌, refl, ap}
use mathlib.Core.Bool.{Bool, true}
use lib.Dec.{leb, leb-zero}
use Rattle.passage.specs.Law.{Kept}
use Rattle.passage.proofs.Runs.{quiet-ticks, events-are-ticks}
use Rattle.counter.specs.declared.state.Timer.{Timer}
use Rattle.counter.specs.Setting.{setting_of, setting_at}
use Rattle.counter.specs.Passage.{start, passed, synced, advanced}
use Rattle.counter.specs.Valid.{Valid}
use Rattle.counter.specs.Law.{SyncsAlike, AdvancesAlike, SyncsQuietly}
use Rattle.counter.proofs.Bounds.{valid-sound}
use Rattle.counter.proofs.Clocks.{due-gap}

-- ---- the calls
pub start-kept : (fits : ℕ → Bool) (t : Timer) → Valid t → fits 0 ≡ true → Kept (setting_of t) fits (start t)
unfolding start
start-kept fits t v e = record { sound = valid-sound t v; fit = e }

pub syncs-alike : SyncsAlike
unfolding synced
syncs-alike t cycle v = ap (passed t cycle) (events-are-ticks _ _ _ _ _ (start-kept (λ k. true) t v refl))

pub advances-alike : AdvancesAlike
unfolding advanced
advances-alike t cycle room v = ap (passed t cycle) (events-are-ticks _ _ _ _ _ (start-kept (λ k. leb k room) t v (leb-zero room)))

pub syncs-quietly : SyncsQuietly
unfolding synced start setting_at
syncs-quietly t cycle v s h = ap (passed t cycle) (quiet-ticks _ _ _ _ _ (start-kept (λ k. true) t v refl) refl (due-gap t cycle v s h))
