-- Laws of the bytes written, as an answer shows them.
use Prim.Native.Nat.{ℕ, ◌+◌, ◌<◌}
use native.Mathlib.Numerals.{add-one}
use mathlib.Core.Path.{◌≡◌, sym, ap, ◌∙◌}
use mathlib.Core.List.{List, [], ◌∷◌, ◌++◌, append_assoc, append-nil}
use borrow.Author.Tests.{ne_eqb}
use lib.ListN.{length, take, get_or}
use lib.Seq.{take-suc}
use Rattle.page.specs.Page.{Puts, pair}
use Rattle.page.proofs.Sheets.{then, put_none}
use Rattle.display.specs.Answers.{hexes, bytes_of}

hexes-snoc : (l : List ℕ) (b : ℕ) → hexes (l ++ b ∷ []) ≡ hexes l ++ pair b
unfolding hexes
hexes-snoc [] b = append-nil (pair b)
hexes-snoc (c ∷ cs) b = ap (λ (l : List ℕ). pair c ++ l) (hexes-snoc cs b) ∙ sym (append_assoc (pair c) (hexes cs) (pair b))

-- none
pub hexes_none : (page : List ℕ) → Puts page page (hexes [])
unfolding hexes
hexes_none page = put_none page

-- one byte more
pub hexes_more : {a b c : List ℕ} (l : List ℕ) (i : ℕ) → i < length l → Puts a b (hexes (take i l)) → Puts b c (pair (get_or l i 0)) → Puts a c (hexes (take (i + 1) l))
hexes_more l i h v w = rw (add-one i, take-suc l i 0 h, hexes-snoc (take i l) (get_or l i 0)) (then v w)

-- all that were written, after their label
pub bytes_all : {a b c : List ℕ} (label area : List ℕ) (written : ℕ) → (written ≡ 0 → ⊥) → Puts a b label → Puts b c (hexes (take written area)) → Puts a c (bytes_of label area written)
unfolding bytes_of
bytes_all label area written h v w = rw (ne_eqb written 0 h) (then v w)
