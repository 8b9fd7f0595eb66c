-- The next event's bound, and the ticks due.
use Prim.Native.Nat.{ℕ, ◌+◌, ◌-◌, ◌≤◌, ◌<◌, ◌^◌}
use native.Mathlib.Omega.{arith}
use native.Mathlib.Nat.{add-zero, add-mul, mul-le-mul, div-lt_iff_lt-mul}
use mathlib.Core.Path.{◌≡◌}
use mathlib.Core.Bool.{true}
use borrow.Author.Tests.{ltb-true}
use Rattle.time.specs.declared.units.Prescaler.{Prescaler}
use Rattle.time.specs.Units.{ticks_at, cycle_at}
use Rattle.wave.specs.Distance.{gap}
use Rattle.time.proofs.Clocks.{ticks-mono, tick-before}
use Rattle.tick.proofs.Choices.{and_left, cond-case}
use Rattle.tick.proofs.Bounds.{gap-max}
use Rattle.counter.specs.declared.state.Timer.{Timer}
use Rattle.counter.specs.Modes.{mode_of, wave_of, divisor_of, prescaler_of, running_of}
use Rattle.counter.specs.Setting.{setting_at, moving_of}
use Rattle.counter.specs.Next.{next_at}
use Rattle.counter.specs.Passage.{due}
use Rattle.counter.specs.Valid.{Valid}
use Rattle.counter.proofs.Bounds.{divisor-max, valid-sound}

-- a divisor is selected where the counter runs
pub running-divides : (t : Timer) → running_of t ≡ true → 0 < divisor_of t
unfolding running_of
running-divides t e = ltb-true 0 (divisor_of t) (and_left _ _ e)

-- the next event's cycle fits a word
pub next_fits : (t : Timer) → Valid t → cycle_at (prescaler_of t) (ticks_at (prescaler_of t) t.clock.sync.0 + (gap (wave_of t (mode_of t)) t.counter t.ocr + 1)) < 2 ^ 64
unfolding cycle_at setting_at
next_fits t v =
    let s = valid-sound t v in
    let g = gap-max (wave_of t (mode_of t)) (moving_of t) s.steady in
    let l : gap (wave_of t (mode_of t)) t.counter t.ocr + 1 ≤ 65536 = omega arith in
    let k = mul-le-mul l (divisor-max t) in
    let e = add-mul (ticks_at (prescaler_of t) t.clock.sync.0) (gap (wave_of t (mode_of t)) t.counter t.ocr + 1) (divisor_of t) in
    let b = tick-before (prescaler_of t) t.clock.sync.0 v.origin in
    omega arith

-- no event at or before the cycle: at most the quiet ticks are due
pub due-gap : (t : Timer) (cycle : ℕ) → Valid t → t.clock.sync.0 ≤ cycle → (running_of t ≡ true → cycle < next_at t) → due t cycle ≤ gap (wave_of t (mode_of t)) t.counter t.ocr
unfolding due next_at cycle_at ticks_at
due-gap t cycle v s h = cond-case (λ (n : ℕ). n ≤ gap (wave_of t (mode_of t)) t.counter t.ocr) (running_of t) running (λ e. omega arith)
  where
    first : ℕ
    first = ticks_at (prescaler_of t) t.clock.sync.0

    running : running_of t ≡ true → ticks_at (prescaler_of t) cycle - first ≤ gap (wave_of t (mode_of t)) t.counter t.ocr
    running e =
        let l = h e in
        let q : ticks_at (prescaler_of t) cycle < first + (gap (wave_of t (mode_of t)) t.counter t.ocr + 1) = (div-lt_iff_lt-mul (running-divides t e)).1 (omega arith) in
        omega arith

-- the last tick due is not after the cycle
pub due-before : (t : Timer) (cycle : ℕ) → Valid t → t.clock.sync.0 ≤ cycle → cycle_at (prescaler_of t) (ticks_at (prescaler_of t) t.clock.sync.0 + due t cycle) ≤ cycle
unfolding due
due-before t cycle v s = cond-case (λ (n : ℕ). cycle_at p (first + n) ≤ cycle) (running_of t) running (λ e. let k = tick-before p t.clock.sync.0 v.origin in rw add-zero (omega arith))
  where
    p : Prescaler
    p = prescaler_of t

    first : ℕ
    first = ticks_at p t.clock.sync.0

    running : running_of t ≡ true → cycle_at p (first + (ticks_at p cycle - first)) ≤ cycle
    running e =
        let m = ticks-mono p t.clock.sync.0 cycle (running-divides t e) s in
        let q : first + (ticks_at p cycle - first) ≡ ticks_at p cycle = omega arith in
        rw q (tick-before p cycle (omega arith))
