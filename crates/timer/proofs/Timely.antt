-- The timer whose time has passed before a call's own work.
use Prim.Native.Nat.{ℕ, zero, suc, ◌≤◌, ◌<◌, ◌^◌}
use native.Mathlib.Omega.{arith}
use mathlib.Core.Path.{◌≡◌, refl}
use mathlib.Core.Bool.{Bool, true, false, false≢true}
use Rattle.tick.specs.declared.setting.Setting.{Setting}
use Rattle.counter.specs.declared.state.Timer.{Timer}
use Rattle.time.specs.declared.units.Prescaler.{Prescaler}
use Rattle.counter.specs.Modes.{prescaler_of}
use Rattle.counter.specs.Setting.{setting_of}
use Rattle.passage.specs.Passage.{Run, one, ticks}
use Rattle.counter.specs.Passage.{due, start, synced, passed, sync_to, sync_of}
use Rattle.counter.specs.Valid.{Valid}
use Rattle.counter.proofs.Lasting.{due-keeps}
use Rattle.counter.proofs.Keeps.{Lasts, valid-lasts}
use Rattle.timer.specs.Calls.{before}

-- it is valid, with the same configuration, registers and halts, and where time passes its sync cycle is the call's
pub record Timely (t x : Timer) (syncs : Bool) (cycle : ℕ) : Type 0 where
  pub lasts : Lasts cycle x
  pub config : x.config ≡ t.config
  pub registers : x.registers ≡ t.registers
  pub halts : x.halts ≡ t.halts
  pub synced : syncs ≡ true → x.clock.sync.0 ≡ cycle

-- ticks that all fit do not stop
never-stops : (s : Setting) (p : Prescaler) (n : ℕ) (r : Run) → r.paused ≡ false → (ticks s p (λ k. true) n r).paused ≡ false
unfolding ticks one
never-stops s p zero r e = e
never-stops s p (suc n) r e = never-stops s p n _ (simp e)

pub timely : (t : Timer) (syncs : Bool) (cycle : ℕ) → Valid t → t.clock.latest.0 ≤ cycle → cycle < 2 ^ 62 → Timely t (before ticks t syncs cycle).timer syncs cycle
unfolding before synced passed sync_to sync_of start
timely t true cycle v l u =
    let e = never-stops (setting_of t) (prescaler_of t) (due t cycle) (start t) refl in
    let d = due-keeps t cycle (λ k. true) v l u refl in
    record { lasts = valid-lasts _ cycle d (simp e (omega arith)) u; config = refl; registers = refl; halts = refl; synced = λ z. simp e }
timely t false cycle v l u = record { lasts = valid-lasts t cycle v l u; config = refl; registers = refl; halts = refl; synced = λ z. absurd (false≢true z) }
