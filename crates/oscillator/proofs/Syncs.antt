-- A cycle that no time-out lies at or before is one quiet step away.
use Prim.Native.Nat.{ℕ, ◌+◌, ◌/◌, ◌≤◌, ◌<◌, ◌^◌}
use native.Mathlib.Omega.{arith}
use native.Mathlib.Nat.{div-lt_iff_lt-mul, le-div_iff_mul-le}
use mathlib.Core.Path.{◌≡◌, refl}
use mathlib.Core.Bool.{Bool, true, false}
use borrow.Author.Tests.{leb-false, le-leb}
use Rattle.time.specs.Units.{ticks_at, cycle_at}
use Rattle.time.proofs.Clocks.{ticks-mono}
use Rattle.wdtcsr.specs.State.{running}
use Rattle.wdtcsr.specs.Timeouts.{linear, gap_of, is_quiet}
use Rattle.wdtcsr.proofs.Bounds.{gap-small}
use Rattle.oscillator.specs.declared.state.Watchdog.{Watchdog}
use Rattle.oscillator.specs.State.{moving_to, synced_at, Valid}
use Rattle.oscillator.specs.Oscillator.{oscillator, ticks, quiet, due, start, sync_of, passed, run_of, synced, next_at, is_due}
use Rattle.oscillator.proofs.Runs.{quiet-ticks}

-- the ticks up to a cycle before the next event are within the gap
pub before-next : (w : Watchdog) (k : ℕ) → cycle_at oscillator (ticks_at oscillator w.sync.0 + k) < next_at w → k ≤ gap_of w.moving
unfolding next_at cycle_at
before-next w k h = omega arith

pub due-gap : (w : Watchdog) (cycle : ℕ) → cycle < next_at w → due w cycle ≤ gap_of w.moving
unfolding next_at cycle_at ticks_at due
due-gap w cycle h =
    let q : cycle / 125 < w.sync.0 / 125 + (gap_of w.moving + 1) = (div-lt_iff_lt-mul {k = 125} {x = cycle} {y = w.sync.0 / 125 + (gap_of w.moving + 1)} (omega arith)).1 (omega arith) in
    omega arith

-- and from the next event on they are not
pub gap-due : (w : Watchdog) (cycle : ℕ) → next_at w ≤ cycle → gap_of w.moving < due w cycle
unfolding next_at cycle_at ticks_at due
gap-due w cycle h =
    let q : w.sync.0 / 125 + (gap_of w.moving + 1) ≤ cycle / 125 = (le-div_iff_mul-le {k = 125} {x = w.sync.0 / 125 + (gap_of w.moving + 1)} {y = cycle} (omega arith)).1 (omega arith) in
    omega arith

-- its tick and its cycle are numbers of the code
pub next_small : (w : Watchdog) → Valid w → ticks_at oscillator w.sync.0 + (gap_of w.moving + 1) < 2 ^ 63
unfolding ticks_at
next_small w v = let g = gap-small w.moving v.sound in let s = v.sync in let l = v.latest in omega arith

pub next_fits : (w : Watchdog) → Valid w → next_at w < 2 ^ 64
unfolding next_at cycle_at ticks_at
next_fits w v =
    let g = gap-small w.moving v.sound in
    let s = v.sync in
    let l = v.latest in
    omega arith

pub quiet-due : (w : Watchdog) (cycle : ℕ) → is_due w cycle ≡ false → is_quiet (due w cycle) w.moving ≡ true
unfolding is_due
quiet-due w cycle h = go (running w.moving) refl
  where
    go : (b : Bool) → running w.moving ≡ b → is_quiet (due w cycle) w.moving ≡ true
    go true r = rw r (le-leb _ _ (due-gap w cycle (leb-false (next_at w) cycle (rw r at h))))
    go false r = rw r

pub synced-is : (w : Watchdog) (cycle : ℕ) → is_due w cycle ≡ false → synced ticks w cycle ≡ synced_at (moving_to w (linear (due w cycle) w.moving)) cycle
unfolding synced passed run_of start quiet sync_of
synced-is w cycle h = rw (quiet-ticks (λ k. true) (due w cycle) (start w) refl refl (quiet-due w cycle h))

-- what a step to such a cycle goes by
pub ruleset sync_steps = (ticks-mono, quiet-due, synced-is)
