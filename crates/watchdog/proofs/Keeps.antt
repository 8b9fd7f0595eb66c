-- Every call leaves a valid watchdog valid.
use Prim.Native.Nat.{ℕ, zero, suc, ◌+◌, ◌-◌, ◌≤◌, ◌<◌, ◌^◌}
use native.Mathlib.Omega.{arith}
use native.Mathlib.Nat.{le_refl}
use mathlib.Core.Path.{◌≡◌, refl, sym, ◌∙◌}
use mathlib.Core.Bool.{Bool, true, false, cond, not, ◌&&◌, ◌||◌, false≢true}
use mathlib.Core.List.{List, [], ◌∷◌}
use lib.Dec.{leb, ltb, eqb}
use lib.ListN.{length}
use borrow.Author.Tests.{leb-false, ltb-true, ltb-false, eqb-true, eqb-false}
use Rattle.time.specs.Units.{late_at, ticks_at}
use Rattle.time.proofs.Clocks.{ticks-mono, cycle-mono, tick-before}
use Rattle.wdtcsr.specs.declared.state.Moving.{Moving}
use Rattle.wdtcsr.specs.declared.state.Window.{Window}
use Rattle.wdtcsr.specs.State.{running, Sound}
use Rattle.wdtcsr.specs.Timeouts.{period_of, resets, timed_out, Step, tick, linear}
use Rattle.wdtcsr.specs.Wdtcsr.{bit_at, wanted_p, takes, too_long, control_to, window_to, stopped_at, written, rewound, served}
use Rattle.wdtcsr.proofs.Ticks.{cond-case}
use Rattle.wdtcsr.proofs.Bounds.{period-upto, timed-out-sound}
use Rattle.oscillator.specs.declared.state.Watchdog.{Watchdog}
use Rattle.oscillator.specs.State.{moving_to, accepted_at, Valid}
use Rattle.oscillator.specs.Oscillator.{oscillator, Run, one, ticks, due, start, sync_of, passed, run_of, synced, is_due}
use Rattle.oscillator.proofs.Runs.{one-all}
use Rattle.oscillator.proofs.Syncs.{synced-is}
use Rattle.watchdog.specs.declared.calls.Call.{Call}
use Rattle.watchdog.specs.declared.calls.Call.TheVariants as call
use Rattle.watchdog.specs.Outcome.{Told}
use Rattle.watchdog.specs.Calls.{early, refusal_of, moved, performed, answered}
use Rattle.watchdog.specs.Claims.{Request, told, last, Kept}

-- ---- the oscillator

-- it is sound, and its window opened no later than a cycle
pub record Lasts (cycle : ℕ) (m : Moving) : Type 0 where
  pub sound : Sound m
  pub since : m.window.since.0 ≤ cycle

timed-out-lasts : (cycle : ℕ) (m : Moving) → Lasts cycle m → Lasts cycle (timed_out m)
unfolding timed_out
timed-out-lasts cycle m y =
    record {
      sound = timed-out-sound m y.sound;
      since = cond-case (λ (x : Moving). x.window.since.0 ≤ cycle) (resets m.control) (λ e. omega arith) (λ e. y.since);
    }

tick-lasts : (cycle : ℕ) (m : Moving) → Lasts cycle m → Lasts cycle (tick m).moving
unfolding tick
tick-lasts cycle m y =
    cond-case Lasting (running m)
    (λ r. cond-case Lasting (ltb (m.count + 1) (period_of m.control.wdp)) (λ l. counted r (ltb-true _ _ l)) (λ l. timed-out-lasts cycle m y))
    (λ r. y)
  where
    Lasting : Step → Type 0
    Lasting s = Lasts cycle s.moving

    counted : running m ≡ true → m.count + 1 < period_of m.control.wdp → Lasting (record { moving = record { count = m.count + 1; control = m.control; window = m.window }; log = [] })
    counted r l =
        let p = period-upto m.control.wdp y.sound.wdp in
        record { sound = record { count = omega arith; wdp = y.sound.wdp; stopped = λ e. absurd (false≢true (sym e ∙ r)) }; since = y.since }

module _ (fits : ℕ → Bool) where
  ticks-last : (cycle n : ℕ) (r : Run) → Lasts cycle r.moving → Lasts cycle (ticks fits n r).moving
  unfolding ticks
  ticks-last cycle zero r y = y
  ticks-last cycle (suc n) r y = ticks-last cycle n (one fits r) (one-all fits (λ (q : Run). Lasts cycle q.moving) r y y (λ e. tick-lasts cycle r.moving y))

  ticks-upto : (n : ℕ) (r : Run) → (ticks fits n r).at ≤ r.at + n
  unfolding ticks
  ticks-upto zero r = omega arith
  ticks-upto (suc n) r =
      let h : (one fits r).at ≤ r.at + 1 = one-all fits (λ (q : Run). q.at ≤ r.at + 1) r (omega arith) (omega arith) (λ e. omega arith) in
      let k = ticks-upto n (one fits r) in
      omega arith

-- ---- time passes
module _ (w : Watchdog) (cycle : ℕ) (v : Valid w) (l : w.latest.0 ≤ cycle) (u : cycle < 2 ^ 62) (fits : ℕ → Bool) where
  run-lasts : Lasts w.latest.0 (run_of ticks w cycle fits).moving
  unfolding run_of start
  run-lasts = ticks-last fits w.latest.0 (due w cycle) (start w) (record { sound = v.sound; since = v.since })

  sync-upto : sync_of w cycle (run_of ticks w cycle fits) ≤ cycle
  unfolding sync_of run_of start due
  sync-upto =
      let h = v.sync in
      let a = ticks-upto fits (due w cycle) (start w) in
      let m = ticks-mono oscillator w.sync.0 cycle (omega arith) (omega arith) in
      let b = cycle-mono oscillator (run_of ticks w cycle fits).at (ticks_at oscillator cycle) (omega arith) in
      let c = tick-before oscillator cycle (omega arith) in
      cond-case (λ (k : ℕ). k ≤ cycle) (run_of ticks w cycle fits).paused (λ e. omega arith) (λ e. le_refl cycle)

  pub passed-valid : Valid (passed w cycle (run_of ticks w cycle fits))
  unfolding passed
  passed-valid =
      let a = run-lasts.since in
      let b = sync-upto in
      let d = v.latest in
      record { sound = run-lasts.sound; since = omega arith; sync = omega arith; latest = omega arith }

-- ticks that all fit do not stop
never-stops : (n : ℕ) (r : Run) → r.paused ≡ false → (ticks (λ k. true) n r).paused ≡ false
unfolding ticks one
never-stops zero r e = e
never-stops (suc n) r e = never-stops n _ (simp e)

-- the watchdog at a call's cycle: valid, with its sync cycle there
module _ (w : Watchdog) (cycle : ℕ) (v : Valid w) (l : w.latest.0 ≤ cycle) (u : cycle < 2 ^ 62) where
  pub synced-valid : Valid (synced ticks w cycle)
  unfolding synced
  synced-valid = passed-valid w cycle v l u (λ k. true)

  synced-latest : (synced ticks w cycle).latest.0 ≤ cycle
  unfolding synced passed
  synced-latest = let b = sync-upto w cycle v l u (λ k. true) in omega arith

  pub synced-lasts : Lasts cycle (synced ticks w cycle).moving
  synced-lasts = let h = synced-valid.since in let k = synced-latest in record { sound = synced-valid.sound; since = omega arith }

  -- what moves in it worked on, and the call's cycle the latest
  pub accepted-valid : (m : Moving) → Lasts cycle m → Valid (accepted_at (moving_to (synced ticks w cycle) m) cycle)
  accepted-valid m y = let h = synced-valid.sync in let k = synced-latest in record { sound = y.sound; since = y.since; sync = omega arith; latest = u }

-- ---- the calls' own work
rewound-lasts : (cycle : ℕ) (m : Moving) → Lasts cycle m → Lasts cycle (rewound m)
rewound-lasts cycle m y = record { sound = record { count = omega arith; wdp = y.sound.wdp; stopped = λ e. refl }; since = y.since }

served-lasts : (cycle : ℕ) (m : Moving) → Lasts cycle m → Lasts cycle (served m)
unfolding served
served-lasts cycle m y =
    cond-case (Lasts cycle) (m.control.wdif && m.control.wdie)
    (λ e. record { sound = record { count = y.sound.count; wdp = y.sound.wdp; stopped = λ r. absurd (false≢true (sym r ∙ runs m.control.wde)) }; since = y.since })
    (λ e. y)
  where
    runs : (b : Bool) → b || not b ≡ true
    runs true = refl
    runs false = refl

written-lasts : (cycle : ℕ) (m : Moving) (value : ℕ) → Lasts cycle m → too_long m.window value cycle ≡ false → Lasts cycle (written m value cycle)
unfolding written stopped_at control_to window_to too_long
written-lasts cycle m value y h =
    record {
      sound = record {
        count = cond-case (λ (k : ℕ). k < 2 ^ 20) (cond taken (bit_at value 8) (m.control.wde || bit_at value 8) || bit_at value 64) (λ e. y.sound.count) (λ e. omega arith);
        wdp = cond-case (λ (k : ℕ). k < 10) taken (λ e. leb-false 10 (wanted_p value) (rw e at h)) (λ e. y.sound.wdp);
        stopped = λ e. rw e refl;
      };
      since = cond-case (λ (x : Window). x.since.0 ≤ cycle) (bit_at value 16 && bit_at value 8) (λ e. le_refl cycle) (λ e. omega arith);
    }
  where
    taken : Bool
    taken = takes m.window value cycle

-- ---- refusals
-- a cycle that is not refused
pub on-time : (latest cycle : ℕ) → late_at latest cycle ≡ 0 → (latest ≤ cycle) × (cycle < 2 ^ 62)
on-time latest cycle e = go (ltb (2 ^ 62 - 1) cycle) refl (ltb cycle latest) refl e
  where
    go : (a : Bool) → ltb (2 ^ 62 - 1) cycle ≡ a → (b : Bool) → ltb cycle latest ≡ b → ◌≡◌ {A = ℕ} (cond a 2 (cond b 3 0)) 0 → (latest ≤ cycle) × (cycle < 2 ^ 62)
    go true p b q r = absurd (omega arith)
    go false p true q r = absurd (omega arith)
    go false p false q r = let h = ltb-false (2 ^ 62 - 1) cycle p in (ltb-false cycle latest q, omega arith)

-- a cycle that is not refused, and before the next event
pub record Timely (w : Watchdog) (cycle : ℕ) : Type 0 where
  pub latest : w.latest.0 ≤ cycle
  pub most : cycle < 2 ^ 62
  pub before : is_due w cycle ≡ false

pub timely : (w : Watchdog) (cycle : ℕ) → early w cycle ≡ 0 → Timely w cycle
unfolding early
timely w cycle e = go (eqb (late_at w.latest.0 cycle) 0) refl (is_due w cycle) refl e
  where
    go : (a : Bool) → eqb (late_at w.latest.0 cycle) 0 ≡ a → (b : Bool) → is_due w cycle ≡ b → ◌≡◌ {A = ℕ} (cond a (cond b 6 0) (late_at w.latest.0 cycle)) 0 → Timely w cycle
    go true p true q r = absurd (omega arith)
    go true p false q r = let h = on-time w.latest.0 cycle (eqb-true _ 0 p) in record { latest = h.0; most = h.1; before = q }
    go false p b q r = absurd (eqb-false _ 0 p r)

-- a write that is not refused either
pub writable : (w : Watchdog) (value cycle : ℕ) → refusal_of w (call.Write value) cycle ≡ 0 → (Timely w cycle) × (too_long w.moving.window value cycle ≡ false)
unfolding refusal_of
writable w value cycle e = go (eqb (early w cycle) 0) refl (too_long w.moving.window value cycle) refl e
  where
    go : (a : Bool) → eqb (early w cycle) 0 ≡ a → (b : Bool) → too_long w.moving.window value cycle ≡ b → ◌≡◌ {A = ℕ} (cond a (cond b 17 0) (early w cycle)) 0
        → (Timely w cycle) × (too_long w.moving.window value cycle ≡ false)
    go true p true q r = absurd (omega arith)
    go true p false q r = (timely w cycle (eqb-true _ 0 p), q)
    go false p b q r = absurd (eqb-false _ 0 p r)

-- ---- the calls
-- the window is as it was before the time passed
written-valid : (w : Watchdog) (value cycle : ℕ) → Valid w → Timely w cycle → too_long w.moving.window value cycle ≡ false
    → Valid (accepted_at (moving_to (synced ticks w cycle) (written (synced ticks w cycle).moving value cycle)) cycle)
unfolding linear
written-valid w value cycle v t h =
    accepted-valid w cycle v t.latest t.most (written (synced ticks w cycle).moving value cycle)
    (written-lasts cycle (synced ticks w cycle).moving value (synced-lasts w cycle v t.latest t.most) (rw (synced-is w cycle t.before) h))

performed-valid : (w : Watchdog) (c : Call) (cycle : ℕ) (area : List ℕ) → Valid w → refusal_of w c cycle ≡ 0 → Valid (performed ticks w c cycle area).watchdog
unfolding performed moved refusal_of
performed-valid w call.Advance cycle area v e = let h = on-time w.latest.0 cycle e in passed-valid w cycle v h.0 h.1 (λ k. leb k (length area))
performed-valid w call.Next cycle area v e =
    let h = timely w cycle e in
    let s = v.since in
    let y = v.sync in
    let l = h.latest in
    record { sound = v.sound; since = omega arith; sync = omega arith; latest = h.most }
performed-valid w call.Wdr cycle area v e =
    let h = timely w cycle e in
    accepted-valid w cycle v h.latest h.most _ (rewound-lasts cycle _ (synced-lasts w cycle v h.latest h.most))
performed-valid w call.Serve cycle area v e =
    let h = timely w cycle e in
    accepted-valid w cycle v h.latest h.most _ (served-lasts cycle _ (synced-lasts w cycle v h.latest h.most))
performed-valid w call.Read cycle area v e =
    let h = timely w cycle e in
    accepted-valid w cycle v h.latest h.most _ (synced-lasts w cycle v h.latest h.most)
performed-valid w (call.Write value) cycle area v e =
    let h = writable w value cycle e in
    written-valid w value cycle v h.0 h.1

pub call-keeps : Kept
unfolding answered
call-keeps w q v =
    cond-case (λ (x : Told). Valid x.watchdog) (eqb (refusal_of w q.call q.cycle) 0)
    (λ e. performed-valid w q.call q.cycle q.area v (eqb-true _ 0 e))
    (λ e. v)

-- so every watchdog that the calls give is valid
pub last-valid : (w : Watchdog) (qs : List Request) → Valid w → Valid (last ticks w qs)
unfolding last
last-valid w [] v = v
last-valid w (q ∷ qs) v = last-valid (told ticks w q).watchdog qs (call-keeps w q v)
