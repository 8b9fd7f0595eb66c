-- An advance keeps a timer valid.
use Prim.Native.Nat.{ℕ, zero, suc, ◌+◌, ◌≤◌, ◌<◌, ◌^◌}
use native.Mathlib.Omega.{arith}
use mathlib.Core.Path.{◌≡◌}
use mathlib.Core.Bool.{Bool, true}
use lib.Dec.{leb, leb-zero}
use Rattle.time.specs.declared.units.Prescaler.{Prescaler}
use Rattle.time.specs.Units.{ticks_at}
use Rattle.time.proofs.Clocks.{cycle-mono}
use Rattle.tick.specs.declared.setting.Moving.{Moving}
use Rattle.tick.specs.declared.setting.Setting.{Setting}
use Rattle.passage.specs.Passage.{Run, one, ticks}
use Rattle.tick.specs.Sound.{Sound}
use Rattle.passage.specs.Law.{Kept}
use Rattle.tick.proofs.Choices.{cond-all}
use Rattle.passage.proofs.Runs.{one-all, one-keeps}
use Rattle.counter.specs.declared.state.Timer.{Timer}
use Rattle.counter.specs.Modes.{prescaler_of, wave_of}
use Rattle.counter.specs.Setting.{setting_of, setting_at, settle}
use Rattle.counter.specs.Passage.{due, start, sync_to, sync_of, passed, advanced}
use Rattle.counter.specs.Valid.{Valid}
use Rattle.counter.specs.Law.{AdvanceKeeps}
use Rattle.counter.proofs.Clocks.{due-before}
use Rattle.counter.proofs.Runs.{start-kept}

module _ (s : Setting) (p : Prescaler) (fits : ℕ → Bool) where
  ticks-keep : (n : ℕ) (r : Run) → Kept s fits r → Kept s fits (ticks s p fits n r)
  unfolding ticks
  ticks-keep zero r g = g
  ticks-keep (suc n) r g = ticks-keep n (one s p fits r) (one-keeps s p fits r g)

  -- n ticks are at most n
  one-upto : (r : Run) → (one s p fits r).at ≤ r.at + 1
  one-upto r = one-all s p fits (λ (q : Run). q.at ≤ r.at + 1) r (omega arith) (omega arith) (λ e. omega arith)

  ticks-upto : (n : ℕ) (r : Run) → (ticks s p fits n r).at ≤ r.at + n
  unfolding ticks
  ticks-upto zero r = omega arith
  ticks-upto (suc n) r = let a = one-upto r in let b = ticks-upto n (one s p fits r) in omega arith

-- a valid timer with other sound numbers, at another sync cycle
settled : (t : Timer) (m : Moving) (sync : ℕ) → Valid t → Sound (setting_of t) m → t.clock.origin.0 ≤ sync → sync < 2 ^ 62 → Valid (sync_to (settle t m) sync)
unfolding sync_to setting_at wave_of
settled t m sync v k o u =
    record { accepted = v.accepted; temp = v.temp; slept = (λ e. let z = v.slept e in (z.0, omega arith)); count = k.steady.count; turns = k.steady.turns; odometer = k.steady.odometer; compares = k.steady.compares; buffers = v.buffers; icr = v.icr; origin = o; sync = omega arith; latest = omega arith }

-- the sync cycle of a run that has at most the ticks due
sync-within : (t : Timer) (cycle : ℕ) (r : Run) → Valid t → t.clock.latest.0 ≤ cycle → r.at ≤ ticks_at (prescaler_of t) t.clock.sync.0 + due t cycle → (t.clock.origin.0 ≤ sync_of t cycle r) × (sync_of t cycle r ≤ cycle)
unfolding sync_of
sync-within t cycle r v l h =
    let m = cycle-mono (prescaler_of t) _ _ h in
    let d = due-before t cycle v (omega arith) in
    cond-all (λ (n : ℕ). (t.clock.origin.0 ≤ n) × (n ≤ cycle)) r.paused (omega arith) (omega arith)

-- so the ticks due keep a timer valid, whatever fits
pub due-keeps : (t : Timer) (cycle : ℕ) (fits : ℕ → Bool) → Valid t → t.clock.latest.0 ≤ cycle → cycle < 2 ^ 62 → fits 0 ≡ true → Valid (passed t cycle (ticks (setting_of t) (prescaler_of t) fits (due t cycle) (start t))).timer
unfolding passed start
due-keeps t cycle fits v l u e =
    let w = sync-within t cycle whole v l (ticks-upto _ _ _ (due t cycle) (start t)) in
    settled t _ _ v (ticks-keep _ _ _ (due t cycle) (start t) (start-kept fits t v e)).sound (omega arith) (omega arith)
  where
    whole : Run
    whole = ticks (setting_of t) (prescaler_of t) fits (due t cycle) (start t)

pub advance-keeps : AdvanceKeeps
unfolding advanced
advance-keeps t cycle room v l u = due-keeps t cycle (λ k. leb k room) v l u (leb-zero room)
