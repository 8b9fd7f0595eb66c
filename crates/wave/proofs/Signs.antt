-- The direction, plus or minus one, in the machine's signed numbers.
use Rattle.std.proofs.Common.{◌≡◌, ℕ, ◌+◌, ◌-◌, ◌^◌, ◌<◌, cond, T, ◌⊎◌, ℤ, pos, negsuc, ◌+ℤ◌, nat_abs, refl, ap, ◌∙◌, inl, inr, arith, to_z-of_z, w32, Fits, SFits, to_z, of_z, le-ltb}
use lib.Signed.{lt_z, non_neg}
use lib.Dec.{leb-suc-zero}
use mir.Facts.{to_z_pos}
use Rattle.wave.specs.Count.{negative, Turns}

below-zero : (d : ℤ) → lt_z d (pos 0) ≡ negative d
below-zero (pos n) = leb-suc-zero n
below-zero (negsuc n) = refl

-- a test `d < 0`
pub sign-is : {d : ℤ} → SFits w32 d → lt_z (to_z w32 (of_z w32 d)) (pos 0) ≡ negative d
sign-is {d} h = rw (to_z-of_z h) (below-zero d)

-- plus or minus one comes back from its bits
pub turn-back : {d : ℤ} → Turns d → to_z w32 (of_z w32 d) ≡ d
turn-back (inl e) = rw e
turn-back (inr e) = rw e

pub turns-back : {d : ℤ} → Turns d → Turns (to_z w32 (of_z w32 d))
turns-back t = rw (turn-back t) t

-- a count with the direction added: it stays in the range, and is not negative
module _ (c : ℕ) (d : ℤ) (h : c < 65536) where
  abbrev Steps : Type 0
  Steps = (d ≡ pos 1) ⊎ ((d ≡ negsuc 0) × (0 < c))

  sum_is : Steps → to_z w32 c +ℤ to_z w32 (of_z w32 d) ≡ pos (cond (negative d) (c - 1) (c + 1))
  sum_is (inl e) = let l : c < 2 ^ 31 = omega arith in rw (e, to_z_pos w32 l)
  sum_is (inr e) = let l : c < 2 ^ 31 = omega arith in rw (e.0, to_z_pos w32 l, le-ltb c 1 e.1)

  sum_lt : Steps → cond (negative d) (c - 1) (c + 1) < 2 ^ 31
  sum_lt (inl e) = rw e (omega arith)
  sum_lt (inr e) = rw e.0 (omega arith)

  pub sum_fits : Steps → SFits w32 (to_z w32 c +ℤ to_z w32 (of_z w32 d))
  sum_fits s = rw (sum_is s) (record { sfits = sum_lt s })

  sum_back : Steps → to_z w32 (of_z w32 (to_z w32 c +ℤ to_z w32 (of_z w32 d))) ≡ pos (cond (negative d) (c - 1) (c + 1))
  sum_back s = ap (λ (z : ℤ). to_z w32 (of_z w32 z)) (sum_is s) ∙ to_z_pos w32 (sum_lt s)

  pub sum-cast : Steps → T (non_neg (to_z w32 (of_z w32 (to_z w32 c +ℤ to_z w32 (of_z w32 d))))) × Fits w32 (nat_abs (to_z w32 (of_z w32 (to_z w32 c +ℤ to_z w32 (of_z w32 d)))))
  sum-cast s = let l = sum_lt s in rw (sum_back s) (tt, record { fits = omega arith })

  pub sum-value : Steps → nat_abs (to_z w32 (of_z w32 (to_z w32 c +ℤ to_z w32 (of_z w32 d)))) ≡ cond (negative d) (c - 1) (c + 1)
  sum-value s = ap nat_abs (sum_back s)
