-- What calls leave of the next event: its cycle and its flags, where they do not touch it.
use Prim.Native.Nat.{ℕ, ◌+◌, ◌-◌, ◌≤◌, ◌<◌, max}
use native.Mathlib.Omega.{arith}
use native.Mathlib.Nat.{add-mul, le-div_iff_mul-le, div-lt_iff_lt-mul}
use mathlib.Core.Path.{◌≡◌, refl, ap, ◌∙◌}
use mathlib.Core.Bool.{Bool, true, false}
use lib.Dec.{leb, leb-zero}
use borrow.Author.Tests.{leb-true, leb-false}
use Rattle.wave.specs.declared.kinds.Wave.{Wave}
use Rattle.wave.specs.Distance.{gap}
use Rattle.time.specs.declared.units.Prescaler.{Prescaler}
use Rattle.time.specs.Units.{ticks_at, cycle_at}
use Rattle.time.proofs.Clocks.{ticks-mono, cycle-mono}
use Rattle.tick.specs.declared.setting.Moving.{Moving}
use Rattle.tick.specs.Distance.{flags_ahead}
use Rattle.tick.specs.Skip.{linear}
use Rattle.tick.proofs.Choices.{cond-case}
use Rattle.passage.specs.Passage.{Run, ticks, quiet}
use Rattle.passage.proofs.Runs.{quiet-ticks}
use Rattle.counter.specs.declared.state.Timer.{Timer}
use Rattle.counter.specs.Modes.{mode_of, wave_of, divisor_of, prescaler_of, held_of, running_of}
use Rattle.counter.specs.Next.{next_at}
use Rattle.counter.specs.Passage.{due, start, sync_to, sync_of, passed, synced, advanced}
use Rattle.counter.specs.Setting.{setting_at, setting_of, moving_of, settle}
use Rattle.counter.specs.Valid.{Valid}
use Rattle.counter.proofs.Clocks.{running-divides, due-gap}
use Rattle.counter.proofs.Runs.{start-kept, syncs-quietly}
use Rattle.outlook.proofs.Ahead.{near-gap, flags-stay}
use Rattle.outlook.proofs.Passing.{ticks-on, below-event}

-- ---- the next event of two timers is one
pub record Same (t x : Timer) : Type 0 where
  pub running : running_of x ≡ running_of t
  pub next : next_at x ≡ next_at t
  pub flags : flags_ahead (setting_of x) (moving_of x) ≡ flags_ahead (setting_of t) (moving_of t)

pub same-trans : {t x y : Timer} → Same t x → Same x y → Same t y
same-trans a b = record { running = b.running ∙ a.running; next = b.next ∙ a.next; flags = b.flags ∙ a.flags }

pub same_refl : (t : Timer) → Same t t
same_refl t = record { running = refl; next = refl; flags = refl }

-- ---- quiet ticks
near_next : (p : Prescaler) (w : Wave) (m : Moving) (k at first : ℕ) → k ≤ gap w m.counter m.ocr → at ≡ first + k
    → cycle_at p (at + (gap w (linear w k m).counter (linear w k m).ocr + 1)) ≡ cycle_at p (first + (gap w m.counter m.ocr + 1))
near_next p w m k at first h e = rw (near-gap w k m h) (ap (cycle_at p) (omega arith))

pub stepped : (t : Timer) (k c : ℕ) → k ≤ gap (wave_of t (mode_of t)) t.counter t.ocr → ticks_at (prescaler_of t) c ≡ ticks_at (prescaler_of t) t.clock.sync.0 + k
    → Same t (sync_to (settle t (linear (wave_of t (mode_of t)) k (moving_of t))) c)
unfolding sync_to next_at running_of divisor_of held_of setting_at wave_of mode_of
stepped t k c h e =
    record {
      running = refl;
      next = near_next (prescaler_of t) (wave_of t (mode_of t)) (moving_of t) k _ _ h e;
      flags = flags-stay (setting_of t) k (moving_of t) h;
    }

-- ---- ticks and cycles
ticks-of-cycle : (p : Prescaler) (n : ℕ) → 0 < p.divisor → ticks_at p (cycle_at p n) ≡ n
unfolding ticks_at cycle_at
ticks-of-cycle p n d =
    let a : n ≤ ticks_at p (cycle_at p n) = (le-div_iff_mul-le d).1 (omega arith) in
    let m = add-mul n 1 p.divisor in
    let b : ticks_at p (cycle_at p n) < n + 1 = (div-lt_iff_lt-mul d).1 (omega arith) in
    omega arith

sync_at : (p : Prescaler) (sync at : ℕ) → 0 < p.divisor → ticks_at p sync ≤ at → ticks_at p (max sync (cycle_at p at)) ≡ at
sync_at p sync at d h = go (leb (cycle_at p at) sync) refl
  where
    go : (b : Bool) → leb (cycle_at p at) sync ≡ b → ticks_at p (max sync (cycle_at p at)) ≡ at
    go true e =
        let l = leb-true (cycle_at p at) sync e in
        let m = ticks-mono p (cycle_at p at) sync d l in
        let k = ticks-of-cycle p at d in
        let z : max sync (cycle_at p at) ≡ sync = omega arith in
        rw z (omega arith)
    go false e =
        let l = leb-false (cycle_at p at) sync e in
        let z : max sync (cycle_at p at) ≡ cycle_at p at = omega arith in
        rw z (ticks-of-cycle p at d)

-- the event lies after the sync cycle
pub next-after : (t : Timer) → running_of t ≡ true → t.clock.origin.0 ≤ t.clock.sync.0 → t.clock.sync.0 < next_at t
unfolding next_at cycle_at ticks_at
next-after t r o =
    let n : ℕ = ticks_at (prescaler_of t) t.clock.sync.0 + (gap (wave_of t (mode_of t)) t.counter t.ocr + 1) in
    let k = (div-lt_iff_lt-mul {x = t.clock.sync.0 - t.clock.origin.0} {y = n} (running-divides t r)).0 (omega arith) in
    omega arith

-- a tick whose cycle lies before the event's is one of the quiet ones
pub before-event : (t : Timer) (at : ℕ) → cycle_at (prescaler_of t) at < next_at t → at ≤ ticks_at (prescaler_of t) t.clock.sync.0 + gap (wave_of t (mode_of t)) t.counter t.ocr
unfolding next_at
before-event t at h = go (leb at last) refl
  where
    last : ℕ
    last = ticks_at (prescaler_of t) t.clock.sync.0 + gap (wave_of t (mode_of t)) t.counter t.ocr

    go : (b : Bool) → leb at last ≡ b → at ≤ last
    go true e = leb-true at last e
    go false e =
        let l = leb-false at last e in
        let m = cycle-mono (prescaler_of t) (last + 1) at (omega arith) in
        let z : last + 1 ≡ ticks_at (prescaler_of t) t.clock.sync.0 + (gap (wave_of t (mode_of t)) t.counter t.ocr + 1) = omega arith in
        let k = rw z at m in
        absurd (omega arith)

-- ---- time passes
module _ (t : Timer) (v : Valid t) (r : running_of t ≡ true) (cycle : ℕ) (s : t.clock.sync.0 ≤ cycle) where
  due-at : ticks_at (prescaler_of t) cycle ≡ ticks_at (prescaler_of t) t.clock.sync.0 + due t cycle
  unfolding due
  due-at = let m = ticks-mono (prescaler_of t) t.clock.sync.0 cycle (running-divides t r) s in rw r (omega arith)

  quietly-same : cycle < next_at t → Same t (sync_to (settle t (linear (wave_of t (mode_of t)) (due t cycle) (moving_of t))) cycle)
  quietly-same l = stepped t (due t cycle) cycle (due-gap t cycle v s (λ e. l)) due-at

  -- a sync before the event
  pub sync-same : cycle < next_at t → Same t (synced ticks t cycle).timer
  unfolding passed sync_of quiet start setting_at
  sync-same l = rw (syncs-quietly t cycle v s (λ e. l)) (quietly-same l)

  -- an advance that does not work the event
  module _ (room : ℕ) where
    abbrev run : Run
    run = ticks (setting_of t) (prescaler_of t) (λ k. leb k room) (due t cycle) (start t)

    came_same : run.paused ≡ false → cycle < next_at t → Same t (sync_to (settle t run.moving) cycle)
    unfolding quiet start setting_at
    came_same e l =
        rw (quiet-ticks (setting_of t) (prescaler_of t) (λ k. leb k room) (due t cycle) (start t) (start-kept (λ k. leb k room) t v (leb-zero room)) refl (due-gap t cycle v s (λ z. l)))
        (quietly-same l)

    halted-same : max t.clock.sync.0 (cycle_at (prescaler_of t) run.at) < next_at t → Same t (sync_to (settle t run.moving) (max t.clock.sync.0 (cycle_at (prescaler_of t) run.at)))
    unfolding start setting_at
    halted-same l =
        let b = before-event t run.at (omega arith) in
        let o = ticks-on (setting_of t) (prescaler_of t) (λ k. leb k room) (due t cycle) (start t) in
        let e = below-event (setting_of t) (prescaler_of t) (λ k. leb k room) (start t) (start-kept (λ k. leb k room) t v (leb-zero room)) refl (due t cycle) b in
        rw e
        (stepped t (run.at - ticks_at (prescaler_of t) t.clock.sync.0) _ (omega arith)
        (sync_at (prescaler_of t) t.clock.sync.0 run.at (running-divides t r) o ∙ omega arith))

    pub advance-same : (advanced ticks t cycle room).timer.clock.sync.0 < next_at t → Same t (advanced ticks t cycle room).timer
    unfolding advanced passed sync_of sync_to
    advance-same =
        cond-case (λ (c : ℕ). c < next_at t → Same t (sync_to (settle t run.moving) c)) run.paused (λ e. halted-same) (λ e l. came_same e l)
