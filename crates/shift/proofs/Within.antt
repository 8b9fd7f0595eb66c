-- How far the signed shift goes.
use Prim.Native.Nat.{ℕ, zero, suc, ◌≤◌}
use native.Mathlib.Omega.{arith}
use mathlib.Core.Path.{◌≡◌, refl, sym, ap, subst, ◌∙◌}
use mathlib.Core.Bool.{Bool, true, false, cond}
use lib.Dec.{ltb}
use lib.IntN.{ℤ, pos, neg_ℤ, nat_abs}
use Rattle.time.specs.Units.{ticks_at}
use Rattle.counter.specs.declared.state.Timer.{Timer}
use Rattle.counter.specs.Modes.{prescaler_of, running_of}
use Rattle.counter.specs.Valid.{Valid}
use Rattle.shift.specs.Shift.{apart, between, refusal_of}
use Rattle.shift.specs.Claims.{Within}
use Rattle.shift.proofs.Refusals.{ticks-apart, accepted-by}
use Rattle.shift.proofs.Signs.{between_is}

either-size : (n : ℕ) (b : Bool) → nat_abs (cond b (neg_ℤ (pos n)) (pos n)) ≡ n
either-size zero true = refl
either-size (suc n) true = refl
either-size n false = refl

between-size : (a b : ℕ) → nat_abs (between a b) ≡ apart a b
between-size a b = sym (ap nat_abs (between_is a b)) ∙ either-size (apart a b) (ltb b a)

module _ (t : Timer) (v : Valid t) (first second : ℕ) where
  abbrev ticks : ℤ
  ticks = between (ticks_at (prescaler_of t) first) (ticks_at (prescaler_of t) second)

  near : refusal_of t first second ≡ 0 → (r : Bool) → running_of t ≡ r → nat_abs (cond r ticks (pos 0)) ≤ 32767
  near n true e = rw (between-size (ticks_at (prescaler_of t) first) (ticks_at (prescaler_of t) second)) (ticks-apart t first second v n e)
  near n false e = omega arith

pub within : Within
within t v first second z h = let a = accepted-by t first second z h in subst (λ (x : ℤ). nat_abs x ≤ 32767) a.1 (near t v first second a.0 (running_of t) refl)
