-- Texts and numbers as bytes, at a place of an area.
use Rattle.std.specs.Prelude.{ℕ, zero, suc, ◌+◌, ◌/◌, ◌%◌, ◌≡◌, cond, List, [], ◌∷◌, ◌++◌, ltb, length}
use Prim.Native.String.{String, len, char_at}
use Prim.Native.Char.{code}
use Rattle.std.proofs.lemmas.List.Edits.{sets}

-- the ASCII codes of a text's first n characters
unfoldable pub codes : String → ℕ → List ℕ
codes s zero = []
codes s (suc n) = codes s n ++ code (char_at s n) ∷ []

-- a text as bytes
abbrev pub text : String → List ℕ
text s = codes s (len s)

-- the last decimal digits of a number, at most k, without leading zeros
unfoldable pub digits : ℕ → ℕ → List ℕ
digits zero n = []
digits (suc k) n = cond (ltb n 10) [] (digits k (n / 10)) ++ (48 + n % 10) ∷ []

-- a number in decimal: it has at most n + 1 digits
unfoldable pub decimal : ℕ → List ℕ
decimal n = digits (suc n) n

-- a number of 64 bits in decimal: twenty digits at most
unfoldable pub number : ℕ → List ℕ
number n = digits 20 n

-- bytes at a place of an area, and the place after them
pub record Wrote (old new : List ℕ) (at r : ℕ) (bytes : List ℕ) : Type 0 where
  pub place : r ≡ at + length bytes
  pub area : new ≡ sets old at bytes
