-- What is proved of the check beside the functions: over any cut of a log into pieces it is the check of the whole.
use Rattle.std.specs.Prelude.{ℕ, ◌<◌, ◌≡◌, false, List, [], ◌∷◌, get_or}
use Rattle.pieces.specs.Pieces.{Bytes, joined}
use Rattle.verdict.specs.declared.Check.{Check}
use Rattle.verdict.specs.Changes.{changes_of, has}
use Rattle.verdict.specs.Refusal.{refusal_of}
use Rattle.verdict.specs.Check.{fresh, checked, refusal_in, pins_in}

-- pieces one after the other
unfoldable pub checked_all : Check → List (List ℕ) → Check
checked_all c [] = c
checked_all c (piece ∷ pieces) = checked_all (checked c piece) pieces

-- a log's refusal and its pins, however it is cut, inside a record too
pub record Checks (pieces : List (List ℕ)) : Type 0 where
  pub refusal : refusal_in (checked_all fresh pieces) ≡ refusal_of (joined pieces)
  pub pins : (pin : ℕ) → pin < 256 → get_or (pins_in (checked_all fresh pieces)) pin false ≡ has pin (changes_of (joined pieces))

abbrev pub ByPieces : Type 0
ByPieces = (pieces : List (List ℕ)) → Bytes (joined pieces) → Checks pieces
