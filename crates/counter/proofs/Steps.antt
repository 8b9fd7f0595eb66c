-- The next event, from the parts that the code computes.
use Prim.Native.Nat.{ℕ, ◌+◌, ◌-◌, ◌<◌, ◌^◌}
use native.Mathlib.Omega.{arith}
use native.Mathlib.Nat.{div-le_self}
use mathlib.Core.Path.{◌≡◌}
use Rattle.wave.specs.declared.kinds.Wave.{Wave}
use Rattle.time.specs.declared.units.Prescaler.{Prescaler}
use Rattle.time.specs.declared.units.Ticks.{Ticks}
use Rattle.time.specs.Units.{ticks_at, cycle_at}
use Rattle.wave.specs.Distance.{gap}
use Rattle.tick.proofs.Bounds.{gap-max}
use Rattle.counter.specs.declared.state.Timer.{Timer}
use Rattle.counter.specs.Modes.{mode_of, wave_of, prescaler_of}
use Rattle.counter.specs.Setting.{setting_at, moving_of}
use Rattle.counter.specs.Next.{next_at}
use Rattle.counter.specs.Valid.{Valid}
use Rattle.counter.proofs.Bounds.{valid-sound}
use Rattle.counter.proofs.Clocks.{next_fits}

-- ---- the next event, from the parts that the code computes
pub record Parts (t : Timer) (p : Prescaler) (l : Ticks) (n : ℕ) (w : Wave) (g : ℕ) : Type 0 where
  pub clock : p ≡ prescaler_of t
  pub last : l.0 ≡ ticks_at p t.clock.sync.0
  pub mode : n ≡ mode_of t
  pub wave : w ≡ wave_of t n
  pub gap : g ≡ gap w t.counter t.ocr

module _ {t : Timer} {p : Prescaler} {l : Ticks} {n : ℕ} {w : Wave} {g : ℕ} (x : Parts t p l n w g) where
  -- its tick fits
  pub next-tick : Valid t → l.0 + (g + 1) < 2 ^ 64
  unfolding ticks_at setting_at
  next-tick v =
      let s = valid-sound t v in
      let b = gap-max (wave_of t (mode_of t)) (moving_of t) s.steady in
      let k = div-le_self (t.clock.sync.0 - p.origin.0) p.divisor in
      let f : g ≡ gap (wave_of t (mode_of t)) t.counter t.ocr = simp (x.gap, x.wave, x.mode) in
      omega arith

  pub next-is : cycle_at p (l.0 + (g + 1)) ≡ next_at t
  unfolding next_at
  next-is = simp (x.gap, x.wave, x.mode, x.last, x.clock)

  -- and its cycle
  pub next-cycle : Valid t → cycle_at p (l.0 + (g + 1)) < 2 ^ 64
  unfolding next_at
  next-cycle v = rw next-is (next_fits t v)
