-- Laws of what is held of a line: bytes one after the other.
use Prim.Native.Nat.{ℕ, ◌+◌, ◌≤◌, ◌<◌}
use native.Mathlib.Omega.{arith}
use mathlib.Core.Bool.{true, false}
use mathlib.Core.List.{List, [], ◌∷◌, ◌++◌, foldl-append}
use mathlib.Core.Path.{◌≡◌, refl, sym, ap, ◌∙◌}
use native.Mathlib.Numerals.{add-one}
use borrow.Author.Tests.{lt-ltb, le-ltb}
use lib.ListN.{length, set, take, get_or}
use lib.Seq.{take-suc, take-suc-set, take_all, length-take-le}
use Rattle.words.specs.Numbers.{between}
use Rattle.linewise.specs.Lines.{hold, holds, Holds, end_of, cut_of, Cuts}

-- a byte stored behind those that are held
pub hold_at : (bytes : List ℕ) (len b : ℕ) → length bytes ≡ 501 → len < 501 → Holds (take len bytes) (take (len + 1) (set bytes len b)) (b ∷ [])
unfolding hold
hold_at bytes len b n h =
    let k : length (take len bytes) ≡ len = length-take-le len bytes (omega (arith, n)) in
    rw (add-one len, take-suc-set bytes len b (omega (arith, n))) (record { after = rw (lt-ltb (length (take len bytes)) 501 (omega (arith, k))) })

-- a byte where the line is too long
pub hold_over : (bytes : List ℕ) (len b : ℕ) → length bytes ≡ 501 → len ≤ 501 → 501 ≤ len → Holds (take len bytes) (take len bytes) (b ∷ [])
unfolding hold
hold_over bytes len b n m h =
    let k : length (take len bytes) ≡ len = length-take-le len bytes (omega (arith, n)) in
    record { after = rw (le-ltb (length (take len bytes)) 501 (omega (arith, k))) }

-- none
pub hold_none : (line : List ℕ) → Holds line line []
hold_none line = record { after = refl }

-- bytes, then others
then : {a b c x y : List ℕ} → Holds a b x → Holds b c y → Holds a c (x ++ y)
then {a} {x = x} {y = y} v w = record { after = w.after ∙ ap (λ (h : List ℕ). holds h y) v.after ∙ sym (foldl-append hold a x y) }

-- one byte more of some
pub hold_more : {a b c : List ℕ} (l : List ℕ) (i : ℕ) → i < length l → Holds a b (take i l) → Holds b c (get_or l i 0 ∷ []) → Holds a c (take (i + 1) l)
hold_more l i h v w = rw (add-one i, take-suc l i 0 h) (then v w)

-- all of some
pub hold_all : {a b : List ℕ} (l : List ℕ) (i : ℕ) → length l ≤ i → Holds a b (take i l) → Holds a b l
hold_all {a} {b} l i h v = rw (take_all i l h) at v

-- ---- a piece

module _ (input old new : List ℕ) (from end : ℕ) (e : end ≡ end_of input from) (held : Holds old new (between input from end)) where
  -- up to a line feed
  pub cut_ended : end < length input → Cuts input from old new (record { at = end + 1; ended = true })
  unfolding cut_of
  cut_ended h = record { held = rw (← e) held; cut = rw (← e, lt-ltb end (length input) h) }

  -- or to the piece's end
  pub cut_short : length input ≤ end → Cuts input from old new (record { at = end; ended = false })
  unfolding cut_of
  cut_short h = record { held = rw (← e) held; cut = rw (← e, le-ltb end (length input) h) }
