-- What an accepted pair of cycles is.
use Prim.Native.Nat.{ℕ, zero, suc, ◌+◌, ◌-◌, ◌*◌, ◌/◌, ◌≤◌, ◌<◌, ◌^◌}
use native.Mathlib.Omega.{arith}
use native.Mathlib.Nat.{add-mul, mul_comm, div-add-mod, mod-lt, div-lt_iff_lt-mul}
use mathlib.Core.Path.{◌≡◌, refl, ap, ◌∙◌}
use mathlib.Core.Bool.{Bool, true, false, cond, ◌&&◌}
use lib.Dec.{eqb, leb, ltb, eqb-suc-zero}
use lib.IntN.{ℤ, pos}
use borrow.Author.Tests.{ltb-false, leb-true, leb-false, eqb-true, eq-eqb}
use Rattle.time.specs.declared.units.Prescaler.{Prescaler}
use Rattle.time.specs.Units.{late_at, ticks_at}
use Rattle.time.proofs.Clocks.{ticks-mono}
use Rattle.counter.specs.declared.state.Timer.{Timer}
use Rattle.counter.specs.Modes.{divisor_of, prescaler_of, running_of}
use Rattle.counter.specs.Valid.{Valid}
use Rattle.counter.proofs.Clocks.{running-divides}
use Rattle.answers.specs.Refusals.{late}
use Rattle.shift.specs.Shift.{apart, between, far_of, foremost, refusal_of, refused, by, values_at}

-- none of three is none of each
pub foremost-none : (a b c : ℕ) → foremost a b c ≡ 0 → (a ≡ 0) × ((b ≡ 0) × (c ≡ 0))
unfolding foremost
foremost-none zero zero c e = (refl, (refl, e))
foremost-none zero (suc b) c e = let z : suc b ≡ 0 = rw eqb-suc-zero at e in absurd (omega arith)
foremost-none (suc a) b c e = let z : suc a ≡ 0 = rw eqb-suc-zero at e in absurd (omega arith)

on-time : (latest cycle : ℕ) → late_at latest cycle ≡ 0 → latest ≤ cycle
on-time latest cycle = go (ltb (2 ^ 62 - 1) cycle) (ltb cycle latest) refl
  where
    go : (a b : Bool) → ltb cycle latest ≡ b → cond {A = ℕ} a 2 (cond b 3 0) ≡ 0 → latest ≤ cycle
    go true b f e = absurd (omega arith)
    go false true f e = absurd (omega arith)
    go false false f e = ltb-false cycle latest f

near_by : (a : Bool) (m n : ℕ) → a ≡ true → cond {A = ℕ} (a && leb m n) 18 0 ≡ 0 → n < m
near_by a m n r = go (leb m n) refl
  where
    go : (b : Bool) → leb m n ≡ b → cond {A = ℕ} (a && b) 18 0 ≡ 0 → n < m
    go true f e = absurd (let z : ◌≡◌ {A = ℕ} 18 0 = rw r at e in omega arith)
    go false f e = leb-false m n f

-- ---- ticks of two cycles that lie near each other
reach : (x y n : ℕ) → 0 < n → x ≤ y → y - x < 32767 * n → y / n ≤ x / n + 32767
reach x y n d h k =
    let a = add-mul (x / n) 32768 n in
    let b = div-add-mod x n in
    let c = mod-lt x d in
    let e = mul_comm n (x / n) in
    let q : y / n < x / n + 32768 = (div-lt_iff_lt-mul d).1 (omega arith) in
    omega arith

ticks-near : (p : Prescaler) (a b : ℕ) → 0 < p.divisor → p.origin.0 ≤ a → a ≤ b → b - a < 32767 * p.divisor → ticks_at p b ≤ ticks_at p a + 32767
unfolding ticks_at
ticks-near p a b d o h k = reach (a - p.origin.0) (b - p.origin.0) p.divisor d (omega arith) (omega arith)

apart-ticks : (p : Prescaler) (a b : ℕ) → 0 < p.divisor → p.origin.0 ≤ a → p.origin.0 ≤ b → apart a b < 32767 * p.divisor → apart (ticks_at p a) (ticks_at p b) ≤ 32767
apart-ticks p a b d o u k = go (leb a b) refl
  where
    go : (x : Bool) → leb a b ≡ x → apart (ticks_at p a) (ticks_at p b) ≤ 32767
    go true e = let l = leb-true a b e in let m = ticks-mono p a b d l in let n = ticks-near p a b d o l (omega arith) in omega arith
    go false e = let l = leb-false a b e in let m = ticks-mono p b a d (omega arith) in let n = ticks-near p b a d u (omega arith) (omega arith) in omega arith

-- ---- of a timer
module _ (t : Timer) (first second : ℕ) (v : Valid t) (e : refusal_of t first second ≡ 0) where
  parts : (late t first ≡ 0) × ((late t second ≡ 0) × (far_of t first second ≡ 0))
  unfolding refusal_of
  parts = foremost-none (late t first) (late t second) (far_of t first second) e

  pub first-since : t.clock.origin.0 ≤ first
  unfolding late
  first-since = let o = v.origin in let s = v.sync in omega (arith, on-time t.clock.latest.0 first parts.0)

  pub second-since : t.clock.origin.0 ≤ second
  unfolding late
  second-since = let o = v.origin in let s = v.sync in omega (arith, on-time t.clock.latest.0 second parts.1.0)

  pub ticks-apart : running_of t ≡ true → apart (ticks_at (prescaler_of t) first) (ticks_at (prescaler_of t) second) ≤ 32767
  unfolding far_of
  ticks-apart r = apart-ticks (prescaler_of t) first second (running-divides t r) first-since second-since (near_by (running_of t) (32767 * divisor_of t) (apart first second) r parts.1.1)

-- an answer with a shift is not refused, and the shift is the definition's
pub accepted-by : (t : Timer) (first second : ℕ) (z : ℤ) → values_at t first second ≡ by z
    → (refusal_of t first second ≡ 0) × (cond (running_of t) (between (ticks_at (prescaler_of t) first) (ticks_at (prescaler_of t) second)) (pos 0) ≡ z)
unfolding values_at
accepted-by t first second z = go (eqb (refusal_of t first second) 0) refl
  where
    w : ℤ
    w = cond (running_of t) (between (ticks_at (prescaler_of t) first) (ticks_at (prescaler_of t) second)) (pos 0)

    go : (b : Bool) → eqb (refusal_of t first second) 0 ≡ b → cond b (by w) refused ≡ by z → (refusal_of t first second ≡ 0) × (w ≡ z)
    go true e h = (eqb-true _ _ e, (cc))
    go false e h = absurd (let k : ◌≡◌ {A = ℕ} 0 1 = cc in omega arith)

-- the shift of a timer that runs, from the parts that the code computes
pub shifted-is : (t : Timer) (first second : ℕ) → refusal_of t first second ≡ 0 → running_of t ≡ true → (p : Prescaler) → p ≡ prescaler_of t
    → (a b : ℕ) → a ≡ ticks_at p first → b ≡ ticks_at p second → (z : ℤ) → z ≡ between a b → by z ≡ values_at t first second
unfolding values_at
shifted-is t first second e r p q a b x y z h =
    let f = x ∙ ap (λ (k : Prescaler). ticks_at k first) q in
    let g = y ∙ ap (λ (k : Prescaler). ticks_at k second) q in
    simp (eq-eqb _ _ e, r) (ap by (h ∙ (ap (λ (n : ℕ). between n b) f ∙ ap (λ (n : ℕ). between (ticks_at (prescaler_of t) first) n) g)))
