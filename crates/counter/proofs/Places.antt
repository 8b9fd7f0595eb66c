-- A place that is one of two.
use Prim.Native.Nat.{ℕ}
use mathlib.Core.Path.{◌≡◌}
use mathlib.Core.Bool.{true, false, ◌||◌, or-true}
use mathlib.Core.Logic.{◌⊎◌, inl, inr}
use lib.Dec.{eqb}
use borrow.Author.Tests.{eq-eqb}

pub one_of : (a b place : ℕ) → (place ≡ a) ⊎ (place ≡ b) → eqb place a || eqb place b ≡ true
one_of a b place (inl e) = rw (eq-eqb place a e)
one_of a b place (inr e) = rw (eq-eqb place b e) (or-true (eqb place a))

-- is none of two others
pub none_of : (a b c d place : ℕ) → (place ≡ a) ⊎ (place ≡ b) → eqb a c || eqb a d ≡ false → eqb b c || eqb b d ≡ false → eqb place c || eqb place d ≡ false
none_of a b c d place (inl e) h k = rw e h
none_of a b c d place (inr e) h k = rw e k
