-- An area of 110 bytes always gets one event tick done.
use Prim.Native.Nat.{ℕ, ◌+◌, ◌≤◌, ◌<◌}
use native.Mathlib.Omega.{arith}
use native.Mathlib.Nat.{le-div_iff_mul-le}
use mathlib.Core.Path.{◌≡◌, refl}
use mathlib.Core.Bool.{true}
use lib.Dec.{leb, leb-zero}
use lib.ListN.{length}
use Rattle.counter.specs.declared.state.Timer.{Timer}
use Rattle.wave.specs.Distance.{gap}
use Rattle.counter.specs.Next.{next_at}
use Rattle.counter.specs.Modes.{mode_of, wave_of, prescaler_of, running_of}
use Rattle.passage.specs.Passage.{ticks}
use Rattle.counter.specs.Passage.{due, start, passed, advanced, sync_to, sync_of}
use Rattle.counter.specs.Setting.{setting_of, setting_at}
use Rattle.time.specs.Units.{ticks_at, cycle_at}
use Rattle.counter.specs.Valid.{Valid}
use Rattle.tick.proofs.Choices.{cond-all}
use Rattle.time.proofs.Clocks.{cycle-mono}
use Rattle.counter.proofs.Clocks.{running-divides}
use Rattle.passage.proofs.Events.{event-done}
use Rattle.counter.proofs.Runs.{start-kept}
use Rattle.timer.specs.Calls.{asks, moved, performed, answered}
use Rattle.timer.specs.Claims.{Progress}
use Rattle.counter.proofs.Keeps.{fresh-is-valid}
use Rattle.timer.proofs.Keeps.{last-valid}

module _ (t : Timer) (cycle : ℕ) (r : running_of t ≡ true) (n : next_at t ≤ cycle) where
  -- the event's tick is due where its cycle has come
  pub event-due : gap (wave_of t (mode_of t)) t.counter t.ocr < due t cycle
  unfolding due next_at cycle_at ticks_at
  event-due =
      let l : ticks_at (prescaler_of t) t.clock.sync.0 + (gap (wave_of t (mode_of t)) t.counter t.ocr + 1) ≤ ticks_at (prescaler_of t) cycle = (le-div_iff_mul-le (running-divides t r)).1 (omega arith) in
      simp r (omega arith)

  advance-reaches : (room : ℕ) → Valid t → 110 ≤ room → next_at t ≤ (advanced ticks t cycle room).timer.clock.sync.0
  unfolding advanced passed sync_to sync_of start setting_at next_at
  advance-reaches room v h =
      let d = event-done (setting_of t) (prescaler_of t) room (due t cycle) (start t) (start-kept (λ k. leb k room) t v (leb-zero room)) refl h event-due in
      let m = cycle-mono (prescaler_of t) _ _ d in
      cond-all (λ (k : ℕ). next_at t ≤ k) (ticks (setting_of t) (prescaler_of t) (λ k. leb k room) (due t cycle) (start t)).paused (omega arith) n

pub progress : Progress
unfolding answered performed asks moved
progress c e qs cycle area r a n h = rw a (advance-reaches _ cycle r n (length area) (last-valid _ qs (fresh-is-valid c e)) h)
