-- Laws of pages: bytes one after the other, and the texts that they make.
use Prim.Native.Nat.{ℕ, ◌+◌, ◌≤◌, ◌<◌, ◌^◌}
use native.Mathlib.Omega.{arith}
use mathlib.Core.Path.{◌≡◌, refl, sym, ap, ◌∙◌}
use mathlib.Core.List.{List, [], ◌∷◌, ◌++◌, foldl-append}
use borrow.Author.Tests.{lt-ltb, le-ltb}
use lib.ListN.{length, take, set, get_or}
use lib.Seq.{take-suc, take-suc-set, take_all, length-take-le}
use native.Mathlib.Numerals.{add-one}
use Rattle.figures.specs.Figures.{decimal}
use Rattle.figures.proofs.Writing.{decimal-length}
use Rattle.page.specs.Page.{size, put, puts, Puts}

-- a byte where a page has room
pub put_here : (page : List ℕ) (b : ℕ) → length page < size → Puts page (page ++ b ∷ []) (b ∷ [])
unfolding put
put_here page b h = record { after = rw (lt-ltb (length page) size h) }

-- the same byte stored behind those that were put
pub put_at : (bytes : List ℕ) (len b : ℕ) → length bytes ≡ size → len < size → Puts (take len bytes) (take (len + 1) (set bytes len b)) (b ∷ [])
put_at bytes len b n h =
    let k : length (take len bytes) ≡ len = length-take-le len bytes (omega (arith, n)) in
    rw (add-one len, take-suc-set bytes len b (omega (arith, n))) (put_here (take len bytes) b (omega (arith, k)))

-- a byte where it is full
pub put_full : (page : List ℕ) (b : ℕ) → size ≤ length page → Puts page page (b ∷ [])
unfolding put
put_full page b h = record { after = rw (le-ltb (length page) size h) }

-- none
pub put_none : (page : List ℕ) → Puts page page []
put_none page = record { after = refl }

-- bytes, then others
pub then : {a b c x y : List ℕ} → Puts a b x → Puts b c y → Puts a c (x ++ y)
then {a} {x = x} {y = y} v w = record { after = w.after ∙ ap (λ (s : List ℕ). puts s y) v.after ∙ sym (foldl-append put a x y) }

-- one byte more of some
pub put_more : {a b c : List ℕ} (l : List ℕ) (i : ℕ) → i < length l → Puts a b (take i l) → Puts b c (get_or l i 0 ∷ []) → Puts a c (take (i + 1) l)
put_more l i h v w = rw (add-one i, take-suc l i 0 h) (then v w)

-- all of some
pub put_all : {a b : List ℕ} (l : List ℕ) (i : ℕ) → length l ≤ i → Puts a b (take i l) → Puts a b l
put_all {a} {b} l i h v = rw (take_all i l h) at v

-- ---- numbers

-- a number of 64 bits has twenty digits at most
pub number-length : (n : ℕ) → n < 2 ^ 64 → length (decimal n) ≤ 20
number-length n h = decimal-length 19 n (omega arith)
