-- What is proved of a script's lines beside the functions, byte by byte.
use Prim.Native.Nat.{ℕ, ◌+◌, ◌≤◌, ◌<◌}
use native.Mathlib.Omega.{arith}
use native.Mathlib.Decide.{dec_le}
use mathlib.Core.Bool.{Bool, true, false, cond}
use mathlib.Core.List.{List, [], ◌∷◌, ◌++◌, foldl, foldl-append, append-nil}
use mathlib.Core.Path.{◌≡◌, refl, sym, ap, ◌∙◌}
use borrow.Author.Tests.{lt-ltb, le-ltb}
use lib.Dec.{eqb}
use lib.ListN.{length, length-append}
use lib.Seq.{append_snoc}
use Rattle.words.specs.Words.{onto}
use Rattle.linewise.specs.Lines.{hold, holds}
use Rattle.linewise.specs.Claims.{lines_of, Read, reading, feed, fed, CutAnywhere, OneFold, Whole, TooLong}

pub cut-anywhere : CutAnywhere
cut-anywhere S step x first second = sym (foldl-append (feed step) x first second)

-- ---- one fold

-- a line before the first of some lines
abbrev before : List ℕ → List (List ℕ) → List (List ℕ)
before line [] = line ∷ []
before line (l ∷ ls) = (line ++ l) ∷ ls

-- some lines with a first
abbrev First : List (List ℕ) → Type 0
First [] = ⊥
First (l ∷ ls) = Unit

-- nothing before it
before-first : (ls : List (List ℕ)) → First ls → before [] ls ≡ ls
before-first [] f = absurd f
before-first (l ∷ ls) f = refl

-- a script has a first line
first-onto : (b : ℕ) (ls : List (List ℕ)) → First (onto b ls)
unfolding onto
first-onto b [] = tt
first-onto b (l ∷ ls) = tt

first_byte : (b : ℕ) (ls : List (List ℕ)) (t : Bool) → First (cond t ([] ∷ ls) (onto b ls))
first_byte b ls true = tt
first_byte b ls false = first-onto b ls

first-line : (script : List ℕ) → First (lines_of script)
unfolding lines_of
first-line [] = tt
first-line (b ∷ bs) = first_byte b (lines_of bs) (eqb b 10)

before-onto : (line : List ℕ) (b : ℕ) (ls : List (List ℕ)) → before (line ++ b ∷ []) ls ≡ before line (onto b ls)
unfolding onto
before-onto line b [] = refl
before-onto line b (l ∷ ls) = ap (λ (x : List ℕ). x ∷ ls) (append_snoc line b l)

module _ (S : Type 0) (step : S → List ℕ → S) where
  -- what is left where the last line is handed over
  abbrev closed : Read S → S
  closed x = step x.left x.line

  -- a line feed, or any other byte
  fold-byte : (s : S) (line bs : List ℕ) (b : ℕ) (t : Bool)
      → closed (fed step (reading (step s line) []) bs) ≡ foldl step (step s line) (before [] (lines_of bs))
      → closed (fed step (reading s (line ++ b ∷ [])) bs) ≡ foldl step s (before (line ++ b ∷ []) (lines_of bs))
      → closed (fed step (cond t (reading (step s line) []) (reading s (line ++ b ∷ []))) bs) ≡ foldl step s (before line (cond t ([] ∷ lines_of bs) (onto b (lines_of bs))))
  fold-byte s line bs b true ended on = ended ∙ ap (foldl step (step s line)) (before-first (lines_of bs) (first-line bs)) ∙ ap (λ (l : List ℕ). foldl step (step s l) (lines_of bs)) (sym (append-nil line))
  fold-byte s line bs b false ended on = on ∙ ap (foldl step s) (before-onto line b (lines_of bs))

  fold-from : (s : S) (line script : List ℕ) → closed (fed step (reading s line) script) ≡ foldl step s (before line (lines_of script))
  unfolding lines_of feed
  fold-from s line [] = ap (step s) (sym (append-nil line))
  fold-from s line (b ∷ bs) = fold-byte s line bs b (eqb b 10) (fold-from (step s line) [] bs) (fold-from s (line ++ b ∷ []) bs)

pub one-fold : OneFold
one-fold S step s script = fold-from S step s [] script ∙ ap (foldl step s) (before-first (lines_of script) (first-line script))

-- ---- what is held

-- a byte that has room
here : (line : List ℕ) (b : ℕ) → length line < 501 → hold line b ≡ line ++ b ∷ []
unfolding hold
here line b h = rw (lt-ltb (length line) 501 h)

-- and one that has none
over : (line : List ℕ) (b : ℕ) → 501 ≤ length line → hold line b ≡ line
unfolding hold
over line b h = rw (le-ltb (length line) 501 h)

whole_from : (line bytes : List ℕ) → length line + length bytes ≤ 500 → holds line bytes ≡ line ++ bytes
whole_from line [] h = sym (append-nil line)
whole_from line (b ∷ bs) h =
    let n = length-append line (b ∷ []) in
    rw (here line b (omega arith)) (whole_from (line ++ b ∷ []) bs (omega (arith, n)) ∙ append_snoc line b bs)

pub whole : Whole
whole bytes h = whole_from [] bytes (omega arith)

-- once too long it stays so
stays : (line bytes : List ℕ) → length line ≡ 501 → length (holds line bytes) ≡ 501
stays line [] n = n
stays line (b ∷ bs) n = ap (λ (l : List ℕ). length (holds l bs)) (over line b (omega (arith, n))) ∙ stays line bs n

long-byte : (line bs : List ℕ) (b : ℕ) → length line ≤ 501 → (length line < 501 → length (holds (line ++ b ∷ []) bs) ≡ 501) → length (holds line (b ∷ bs)) ≡ 501
long-byte line bs b k on = go (dec_le 501 (length line))
  where
    go : Dec (501 ≤ length line) → length (holds line (b ∷ bs)) ≡ 501
    go (yes q) = ap (λ (l : List ℕ). length (holds l bs)) (over line b q) ∙ stays line bs (omega arith)
    go (no q) = ap (λ (l : List ℕ). length (holds l bs)) (here line b (omega arith)) ∙ on (omega arith)

long-from : (line bytes : List ℕ) → length line ≤ 501 → 500 < length line + length bytes → length (holds line bytes) ≡ 501
long-from line [] k h = omega arith
long-from line (b ∷ bs) k h =
    let n = length-append line (b ∷ []) in
    long-byte line bs b k (λ q. long-from (line ++ b ∷ []) bs (omega (arith, n)) (omega (arith, n)))

pub too_long : TooLong
too_long bytes h = long-from [] bytes (omega arith) (omega arith)
