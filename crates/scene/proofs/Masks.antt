-- Bits among others: a mask that is apart from all others but its own finds its own alone.
use Rattle.std.proofs.Common.{◌≡◌, ℕ, zero, suc, ◌+◌, ◌*◌, ◌/◌, ◌%◌, ◌≤◌, min, max, Bool, true, false, cond, not, ◌||◌, eqb, sym, refl, ap, ◌∙◌, ap₂, arith, ne_eqb}
use mathlib.Core.Bool.{or-true, or-false}
use lib.Bits.{bit_or, bit_and, and_step, or_step, and_self, and_zero_l, and_le_l, or_add_and, or_zero_r}
use borrow.Author.Tests.{eqb-false}

-- ---- a mask of bits together is the mask of each
half-or : (x y : ℕ) → bit_or x y / 2 ≡ bit_or (x / 2) (y / 2)
half-or x y = let s = or_step x y in omega arith

odd-or : (x y : ℕ) → bit_or x y % 2 ≡ max (x % 2) (y % 2)
odd-or x y = let s = or_step x y in omega arith

half-and : (x y : ℕ) → bit_and x y / 2 ≡ bit_and (x / 2) (y / 2)
half-and x y = let s = and_step x y in omega arith

odd-and : (x y : ℕ) → bit_and x y % 2 ≡ min (x % 2) (y % 2)
odd-and x y = let s = and_step x y in omega arith

digit : (p q r : ℕ) → min (max p q) r ≡ max (min p r) (min q r)
digit p q r = omega arith

spread-to : (n x y m : ℕ) → x ≤ n → y ≤ n → bit_and (bit_or x y) m ≡ bit_or (bit_and x m) (bit_and y m)
spread-to zero x y m h k = let e : x ≡ 0 = omega arith in let f : y ≡ 0 = omega arith in rw (e, f)
spread-to (suc n) x y m h k =
    and_step (bit_or x y) m
    ∙ ap₂ (λ (p q : ℕ). bit_and p (m / 2) * 2 + min q (m % 2)) (half-or x y) (odd-or x y)
    ∙ ap₂ (λ (p q : ℕ). p * 2 + q) (spread-to n (x / 2) (y / 2) (m / 2) (omega arith) (omega arith)) (digit (x % 2) (y % 2) (m % 2))
    ∙ sym (or_step (bit_and x m) (bit_and y m)
    ∙ ap₂ (λ (p q : ℕ). bit_or p (bit_and y m / 2) * 2 + max q (bit_and y m % 2)) (half-and x m) (odd-and x m)
    ∙ ap₂ (λ (p q : ℕ). bit_or (bit_and (x / 2) (m / 2)) p * 2 + max (min (x % 2) (m % 2)) q) (half-and y m) (odd-and y m))

spread : (x y m : ℕ) → bit_and (bit_or x y) m ≡ bit_or (bit_and x m) (bit_and y m)
spread x y m = spread-to (x + y) x y m (omega arith) (omega arith)

-- ---- a flag where it is raised
-- it does not meet a mask that is apart
pub missed : (b : Bool) (flag m : ℕ) → bit_and flag m ≡ 0 → bit_and (cond b flag 0) m ≡ 0
missed true flag m h = h
missed false flag m h = and_zero_l m

-- and meets its own
pub met : (b : Bool) (flag : ℕ) → bit_and (cond b flag 0) flag ≡ cond b flag 0
met true flag = and_self flag
met false flag = and_zero_l flag

-- five flags together meet a mask as each of them does
pub five : (v a b i c m : ℕ) → bit_and (bit_or (bit_or (bit_or (bit_or v a) b) i) c) m
    ≡ bit_or (bit_or (bit_or (bit_or (bit_and v m) (bit_and a m)) (bit_and b m)) (bit_and i m)) (bit_and c m)
five v a b i c m =
    spread (bit_or (bit_or (bit_or v a) b) i) c m
    ∙ ap (λ (x : ℕ). bit_or x (bit_and c m)) (spread (bit_or (bit_or v a) b) i m
    ∙ ap (λ (x : ℕ). bit_or x (bit_and i m)) (spread (bit_or v a) b m
    ∙ ap (λ (x : ℕ). bit_or x (bit_and b m)) (spread v a m)))

-- a flag that is not 0 where it is raised tells whether it is
pub told-by : (b : Bool) (flag : ℕ) → (b ≡ true → eqb flag 0 ≡ false) → not (eqb (cond b flag 0) 0) ≡ b
told-by true flag h = rw (h refl)
told-by false flag h = refl

-- ---- some bit is there exactly where something raises one
or_left : (x y : ℕ) → bit_or x y ≡ 0 → y ≡ 0
or_left x y e = let a = or_add_and x y in let b = and_le_l x y in omega arith

pub joins : (b was : Bool) (x flag : ℕ) → (b ≡ true → eqb flag 0 ≡ false) → was ≡ not (eqb x 0) → was || b ≡ not (eqb (bit_or x (cond b flag 0)) 0)
joins true was x flag h e = rw (or-true, ne_eqb (bit_or x flag) 0 (λ z. eqb-false flag 0 (h refl) (or_left x flag z)))
joins false was x flag h e = rw (or-false, or_zero_r) e
