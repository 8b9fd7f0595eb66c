-- A script's lines (docs/SCRIPT.md): what stands between line feeds, "a line over 500 bytes" too long.
use Rattle.std.specs.Prelude.{ℕ, ◌+◌, cond, ◌≡◌, ltb, length}
use mathlib.Core.List.{List, [], ◌∷◌, ◌++◌, foldl}
use Rattle.words.specs.Words.{find_of}
use Rattle.words.specs.Numbers.{between}
use Rattle.linewise.specs.declared.Reached.{Reached}

-- one byte more behind those that are held of a line: 501 bytes where it is too long
unfoldable pub hold : List ℕ → ℕ → List ℕ
hold line b = cond (ltb (length line) 501) (line ++ b ∷ []) line

-- some bytes more
abbrev pub holds : List ℕ → List ℕ → List ℕ
holds line bytes = foldl hold line bytes

-- what is held of a line after some bytes more
pub record Holds (old new bytes : List ℕ) : Type 0 where
  pub after : new ≡ holds old bytes

-- where the line ends: at the next line feed, else at the piece's end
abbrev pub end_of : List ℕ → ℕ → ℕ
end_of input from = find_of input from 10

-- how far a piece is read: behind the line feed, where there is one
unfoldable pub cut_of : List ℕ → ℕ → Reached
cut_of input from =
    let ended = ltb (end_of input from) (length input) in
    record { at = cond ended (end_of input from + 1) (end_of input from); ended = ended }

-- the bytes up to there are held, and how far that is
pub record Cuts (input : List ℕ) (from : ℕ) (old new : List ℕ) (r : Reached) : Type 0 where
  pub held : Holds old new (between input from (end_of input from))
  pub cut : r ≡ cut_of input from
