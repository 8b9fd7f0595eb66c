-- What the code's run makes of a watchdog.
use Prim.Native.Nat.{ℕ, ◌≤◌, ◌<◌, ◌^◌, max}
use native.Mathlib.Omega.{arith}
use mathlib.Core.Path.{◌≡◌, refl, sym, ◌∙◌}
use mathlib.Core.Bool.{cond}
use mathlib.Core.List.{List}
use lib.Dec.{leb}
use lib.ListN.{length, take}
use lib.ListN.{take-append-drop}
use lib.Seq.{length-take-le}
use Rattle.time.specs.declared.units.Cycle.{Cycle}
use Rattle.time.specs.Units.{ticks_at, cycle_at}
use Rattle.time.proofs.Clocks.{ticks-mono, cycle-mono, tick-before}
use Rattle.wdtcsr.specs.declared.state.Moving.{Moving}
use Rattle.oscillator.specs.declared.passing.Finished.{Finished}
use Rattle.oscillator.specs.declared.state.Watchdog.{Watchdog}
use Rattle.oscillator.specs.State.{moving_to, synced_at, Valid}
use Rattle.time.specs.declared.units.Ticks.{Ticks}
use Rattle.std.specs.Prelude.{Option, Some, None, is_some, unwrap_or, option_map}
use Rattle.oscillator.specs.Oscillator.{oscillator, last_of, ticks, due, start, sync_of, passed, run_of, Ready, Finishes, Advances}

module _ (w : Watchdog) (cycle : ℕ) (v : Valid w) (l : w.latest.0 ≤ cycle) (u : cycle < 2 ^ 62) {a b : ℕ} (ea : a ≡ ticks_at oscillator w.sync.0) (eb : b ≡ ticks_at oscillator cycle) where
  end-cycle : cycle_at oscillator b ≤ cycle
  end-cycle = rw eb (tick-before oscillator cycle (omega arith))

  pub run-ready : Ready w.moving a b
  run-ready =
      let s = v.sync in
      let m = ticks-mono oscillator w.sync.0 cycle (omega arith) (omega arith) in
      let e = end-cycle in
      record { sound = v.sound; upto = omega arith; cycles = omega arith }

  module _ {area : List ℕ} {r : Finished} {after : List ℕ} (g : Finishes w.moving a b area r after) (n : length after ≡ length area) where
    -- the run by ticks ends there
    ran : run_of ticks w cycle (λ k. leb k (length area)) ≡ record { moving = r.moving; at = last_of b r.paused; bytes = take r.written after; paused = is_some r.paused }
    unfolding run_of start due
    ran = rw (← ea, ← eb) g.run

    long : length (take r.written after) ≡ r.written
    long = length-take-le r.written after (let h = g.room in omega arith)

    pub advances : {x : Watchdog} {paused : Option Cycle}
        → x ≡ synced_at (moving_to w r.moving) (unwrap_or paused (record { 0 = cycle })).0
        → paused ≡ option_map (λ (at : Ticks). record { 0 = max w.sync.0 (cycle_at oscillator at.0) }) r.paused
        → Advances w cycle area (record { watchdog = x; written = r.written; paused = paused }) after
    unfolding passed sync_of
    advances {x} {paused} ex ep =
        let k = kept r.paused refl in
        record { watchdog = ex ∙ k.0; written = rw ran (sym long); paused = ep ∙ k.1; area = rw (ran, long, ← g.left) (sym (take-append-drop r.written after)) }
      where
        kept : (o : Option Ticks) → r.paused ≡ o → (synced_at (moving_to w r.moving) (unwrap_or paused (record { 0 = cycle })).0 ≡ passed w cycle (run_of ticks w cycle (λ k. leb k (length area))))
            × (option_map (λ (at : Ticks). record { 0 = max w.sync.0 (cycle_at oscillator at.0) }) r.paused ≡ cond (run_of ticks w cycle (λ k. leb k (length area))).paused (Some x.sync) None)
        kept None e = (rw (ran, ep, e) refl, rw (ran, e) refl)
        kept (Some at) e = (rw (ran, ep, e) refl, rw (ran, ex, ep, e) refl)

-- the last tick of a run that stopped has a cycle
pub last_cycle : {m : Moving} {from end cycle : ℕ} {before after : List ℕ} {r : Finished} {at : Ticks} → Finishes m from end before r after → end ≡ ticks_at oscillator cycle → cycle < 2 ^ 62
    → r.paused ≡ Some at → cycle_at oscillator at.0 < 2 ^ 64
last_cycle {end = end} {cycle = cycle} {at = at} g ee u e =
    let c = cycle-mono oscillator at.0 end (rw e at g.upto) in
    let h = tick-before oscillator cycle (omega arith) in
    omega (arith, rw ee at c)
