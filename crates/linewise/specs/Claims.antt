-- What is proved of a script's lines beside the functions: its answers are one fold over them, wherever its pieces are cut, and a line that is held is the line.
use Rattle.std.specs.Prelude.{ℕ, ◌≤◌, ◌<◌, cond, ◌≡◌, eqb, length}
use mathlib.Core.List.{List, [], ◌∷◌, ◌++◌, foldl}
use Rattle.words.specs.Words.{onto}
use Rattle.linewise.specs.Lines.{holds}

-- ---- lines

-- what stands between line feeds; the last line is what no line feed ends
unfoldable pub lines_of : List ℕ → List (List ℕ)
lines_of [] = [] ∷ []
lines_of (b ∷ bs) = cond (eqb b 10) ([] ∷ lines_of bs) (onto b (lines_of bs))

-- ---- answers

-- what has come of a script: what its whole lines left, and the line so far
pub record Read (S : Type 0) : Type 0 where
  pub left : S
  pub line : List ℕ

abbrev pub reading : {S : Type 0} → S → List ℕ → Read S
reading left line = record { left = left; line = line }

-- one byte more: a line feed hands the line over
unfoldable pub feed : {S : Type 0} → (S → List ℕ → S) → Read S → ℕ → Read S
feed step x b = cond (eqb b 10) (reading (step x.left x.line) []) (reading x.left (x.line ++ b ∷ []))

-- a piece more
abbrev pub fed : {S : Type 0} → (S → List ℕ → S) → Read S → List ℕ → Read S
fed step x piece = foldl (feed step) x piece

-- "A script may be of any length: the program reads it in pieces": where it is cut changes nothing
abbrev pub CutAnywhere : Type 1
CutAnywhere = (S : Type 0) (step : S → List ℕ → S) (x : Read S) (first second : List ℕ) → fed step (fed step x first) second ≡ fed step x (first ++ second)

-- and what a script leaves is one fold over its lines, the last one too
abbrev pub OneFold : Type 1
OneFold = (S : Type 0) (step : S → List ℕ → S) (s : S) (script : List ℕ)
    → step (fed step (reading s []) script).left (fed step (reading s []) script).line ≡ foldl step s (lines_of script)

-- ---- what is held

-- a line of 500 bytes at most is held as it is
abbrev pub Whole : Type 0
Whole = (bytes : List ℕ) → length bytes ≤ 500 → holds [] bytes ≡ bytes

-- a longer one is seen to be too long
abbrev pub TooLong : Type 0
TooLong = (bytes : List ℕ) → 500 < length bytes → length (holds [] bytes) ≡ 501
