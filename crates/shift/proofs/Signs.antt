-- A size with a sign, in the machine's signed numbers.
use Prim.Native.Nat.{ℕ, zero, suc, ◌-◌, ◌≤◌, ◌<◌, ◌^◌}
use native.Mathlib.Omega.{arith}
use mathlib.Core.Path.{◌≡◌, refl, ap, ◌∙◌}
use mathlib.Core.Bool.{Bool, true, false, cond}
use lib.Dec.{ltb}
use lib.IntN.{pos, negsuc, neg_ℤ, ◌-ℤ◌, +ℤ_idl}
use mir.Syntax.{w32}
use mir.Val.{SFits, to_z, of_z}
use mir.Facts.{to_z_pos, to_z-of_z}
use borrow.Author.Tests.{ltb-true, ltb-false}
use Rattle.shift.specs.Shift.{apart, between}

module _ (n : ℕ) (h : n ≤ 32767) where
  pub up_is : to_z w32 n ≡ pos n
  up_is = let l : n < 2 ^ 31 = omega arith in to_z_pos w32 l

  down_is : to_z w32 0 -ℤ to_z w32 n ≡ neg_ℤ (pos n)
  down_is = rw up_is (+ℤ_idl (neg_ℤ (pos n)))

small : (n : ℕ) → n ≤ 32767 → SFits w32 (neg_ℤ (pos n))
small zero h = record { sfits = omega arith }
small (suc n) h = record { sfits = omega arith }

module _ (n : ℕ) (h : n ≤ 32767) where
  pub down_fits : SFits w32 (to_z w32 0 -ℤ to_z w32 n)
  down_fits = rw (down_is n h) (small n h)

  pub down-back : to_z w32 (of_z w32 (to_z w32 0 -ℤ to_z w32 n)) ≡ neg_ℤ (pos n)
  down-back = to_z-of_z down_fits ∙ down_is n h

-- the size between two numbers, with the sign of the way
from-none : (to : ℕ) (b : Bool) → ltb to 0 ≡ b → cond b (neg_ℤ (pos (apart 0 to))) (pos (apart 0 to)) ≡ between 0 to
from-none to true e = absurd (let l = ltb-true to 0 e in omega arith)
from-none to false e = ap pos (omega arith)

from_some : (m to : ℕ) (b : Bool) → ltb to (suc m) ≡ b → cond b (neg_ℤ (pos (apart (suc m) to))) (pos (apart (suc m) to)) ≡ cond b (negsuc (suc m - suc to)) (pos (to - suc m))
from_some m to true e = let l = ltb-true to (suc m) e in let q : apart (suc m) to ≡ suc (suc m - suc to) = omega arith in rw q
from_some m to false e = let l = ltb-false to (suc m) e in ap pos (omega arith)

pub between_is : (from to : ℕ) → cond (ltb to from) (neg_ℤ (pos (apart from to))) (pos (apart from to)) ≡ between from to
between_is zero to = from-none to (ltb to 0) refl
between_is (suc m) to = from_some m to (ltb to (suc m)) refl
