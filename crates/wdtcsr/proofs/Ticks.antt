-- One tick, and ticks that only count.
use Prim.Native.Nat.{ℕ, suc, ◌+◌, ◌-◌, ◌≤◌, ◌<◌}
use native.Mathlib.Omega.{arith}
use native.Mathlib.Nat.{add-zero, le_refl}
use mathlib.Core.Path.{◌≡◌, refl, sym}
use mathlib.Core.Bool.{Bool, true, false, cond, not, ◌||◌}
use mathlib.Core.List.{[], ◌∷◌}
use lib.Dec.{leb}
use borrow.Author.Tests.{leb-true, leb-false, le-leb, lt-ltb, le-ltb}
use Rattle.wdtcsr.specs.declared.state.Moving.{Moving}
use Rattle.wdtcsr.specs.State.{running}
use Rattle.wdtcsr.specs.Timeouts.{period_of, timed_out, timeout, tick, linear, gap_of, is_quiet}

-- a choice is what both of its sides are, each where its test says so
pub cond-case : {A : Type 0} (Q : A → Type 0) (b : Bool) {x y : A} → (b ≡ true → Q x) → (b ≡ false → Q y) → Q (cond b x y)
cond-case Q true h k = h refl
cond-case Q false h k = k refl

-- no time-out lies within n ticks of a running watchdog exactly up to its gap
pub quiet-gap : (n : ℕ) (m : Moving) → running m ≡ true → is_quiet n m ≡ true → n ≤ gap_of m
quiet-gap n m r h = leb-true n (gap_of m) (rw r at h)

pub loud-runs : (n : ℕ) (m : Moving) → is_quiet n m ≡ false → running m ≡ true
loud-runs n m h = go (running m) h
  where
    go : (b : Bool) → not b || leb n (gap_of m) ≡ false → b ≡ true
    go true e = refl
    go false e = sym e

pub loud-gap : (n : ℕ) (m : Moving) → is_quiet n m ≡ false → gap_of m < n
loud-gap n m h = leb-false n (gap_of m) (rw (loud-runs n m h) at h)

pub quiet-less : (k n : ℕ) (m : Moving) → k ≤ n → is_quiet n m ≡ true → is_quiet k m ≡ true
quiet-less k n m l h = go (running m) refl
  where
    go : (b : Bool) → running m ≡ b → is_quiet k m ≡ true
    go true r = let g = quiet-gap n m r h in rw r (le-leb k (gap_of m) (omega arith))
    go false r = rw r

pub quiet-to-gap : (m : Moving) → is_quiet (gap_of m) m ≡ true
quiet-to-gap m = go (running m) refl
  where
    go : (b : Bool) → running m ≡ b → is_quiet (gap_of m) m ≡ true
    go true r = rw r (le-leb (gap_of m) (gap_of m) (le_refl (gap_of m)))
    go false r = rw r

-- before a time-out a tick only counts
pub tick-quiet : (n : ℕ) (m : Moving) → is_quiet (suc n) m ≡ true → tick (linear n m) ≡ record { moving = linear (suc n) m; log = [] }
unfolding tick linear gap_of
tick-quiet n m h = go (running m) refl
  where
    go : (b : Bool) → running m ≡ b → tick (linear n m) ≡ record { moving = linear (suc n) m; log = [] }
    go true r =
        let g = quiet-gap (suc n) m r h in
        let e : m.count + n + 1 ≡ m.count + suc n = omega arith in
        simp (r, e, lt-ltb (m.count + suc n) (period_of m.control.wdp) (omega arith))
    go false r = simp r

-- at the end of the gap it times out
pub tick-loud : (m : Moving) → running m ≡ true → tick (linear (gap_of m) m) ≡ record { moving = timed_out m; log = timeout m ∷ [] }
unfolding tick linear gap_of timed_out timeout
tick-loud m r =
    simp (r, le-ltb (m.count + (period_of m.control.wdp - suc m.count) + 1) (period_of m.control.wdp) (omega arith))

pub linear-none : (m : Moving) → linear 0 m ≡ m
unfolding linear
linear-none m = go (running m) refl
  where
    go : (b : Bool) → running m ≡ b → linear 0 m ≡ m
    go true r = simp (r, add-zero)
    go false r = simp r
