-- What is proved of pages beside the functions, byte by byte.
use Prim.Native.Nat.{ℕ, suc, ◌+◌, ◌≤◌, ◌<◌}
use native.Mathlib.Omega.{arith}
use native.Mathlib.Decide.{dec_le}
use mathlib.Core.Path.{◌≡◌, refl, sym, ap, ◌∙◌}
use mathlib.Core.List.{List, [], ◌∷◌, ◌++◌, append-nil, append_assoc}
use borrow.Author.Tests.{lt-ltb, le-ltb}
use mathlib.Core.Bool.{Bool, true, false, cond}
use lib.Dec.{eqb, ltb}
use lib.ListN.{length, take, length-append}
use lib.Seq.{take_all, take-take, take-append-le}
use Rattle.words.specs.Reasons.{numbered}
use Rattle.page.specs.Page.{size, put, puts, reason_of}
use Rattle.page.specs.Claims.{Fits, NothingLost, Bounded, RoomSeen, Short, Numbered}
use Rattle.page.proofs.Lengths.{unreadable-short}

-- a byte that has room
here : (page : List ℕ) (b : ℕ) → length page < size → put page b ≡ page ++ b ∷ []
unfolding put
here page b h = rw (lt-ltb (length page) size h)

-- a byte that has none
full : (page : List ℕ) (b : ℕ) → size ≤ length page → put page b ≡ page
unfolding put
full page b h = rw (le-ltb (length page) size h)

pub fits : Fits
fits page [] h = sym (append-nil page)
fits page (b ∷ bs) h =
    let n = length-append page (b ∷ []) in
    rw (here page b (omega arith)) (fits (page ++ b ∷ []) bs (omega (arith, n)) ∙ append_assoc page (b ∷ []) bs)

-- one byte put
put-keeps : (page : List ℕ) (b : ℕ) → take (length page) (put page b) ≡ page
unfolding put
put-keeps page b = go (ltb (length page) size)
  where
    go : (t : Bool) → take (length page) (cond t (page ++ b ∷ []) page) ≡ page
    go true = take-append-le (length page) page (b ∷ []) (omega arith) ∙ take_all (length page) page (omega arith)
    go false = take_all (length page) page (omega arith)

put-longer : (page : List ℕ) (b : ℕ) → length page ≤ length (put page b)
unfolding put
put-longer page b = go (ltb (length page) size)
  where
    go : (t : Bool) → length page ≤ length (cond t (page ++ b ∷ []) page)
    go true = let n = length-append page (b ∷ []) in omega (arith, n)
    go false = omega arith

pub nothing-lost : NothingLost
nothing-lost page [] = take_all (length page) page (omega arith)
nothing-lost page (b ∷ bs) =
    let l = put-longer page b in
    sym (take-take (length page) (length (put page b)) (puts (put page b) bs) l) ∙ ap (take (length page)) (nothing-lost (put page b) bs) ∙ put-keeps page b

put-bounded : (page : List ℕ) (b : ℕ) → length page ≤ size → length (put page b) ≤ size
unfolding put
put-bounded page b h = go (dec_le size (length page))
  where
    go : Dec (size ≤ length page) → length (cond (ltb (length page) size) (page ++ b ∷ []) page) ≤ size
    go (yes q) = rw (le-ltb (length page) size q) h
    go (no q) = let n = length-append page (b ∷ []) in rw (lt-ltb (length page) size (omega arith)) (omega (arith, n))

pub bounded : Bounded
bounded page [] h = h
bounded page (b ∷ bs) h = bounded (put page b) bs (put-bounded page b h)

-- a full page stays full
stays : (page bytes : List ℕ) → size ≤ length page → puts page bytes ≡ page
stays page [] h = refl
stays page (b ∷ bs) h = ap (λ (s : List ℕ). puts s bs) (full page b h) ∙ stays page bs h

-- one byte seen
seen : (page bs : List ℕ) (b : ℕ) → (length (puts (page ++ b ∷ []) bs) < size → length (page ++ b ∷ []) + length bs ≤ size)
    → length (puts page (b ∷ bs)) < size → length page + suc (length bs) ≤ size
seen page bs b ih h = go (dec_le size (length page))
  where
    go : Dec (size ≤ length page) → length page + suc (length bs) ≤ size
    go (yes q) = let e = ap (λ (s : List ℕ). length s) (stays page (b ∷ bs) q) in absurd (omega (arith, e, h))
    go (no q) =
        let e = ap (λ (s : List ℕ). length (puts s bs)) (here page b (omega arith)) in
        let r = ih (omega (arith, e, h)) in
        let n = length-append page (b ∷ []) in
        omega (arith, n)

pub room-seen : RoomSeen
room-seen page [] h = omega arith
room-seen page (b ∷ bs) h = seen page bs b (room-seen (page ++ b ∷ []) bs) h

pub short : Short
short = unreadable-short

-- what is said of a choice is chosen
chosen : {A B : Type 0} (f : A → B) (t : Bool) {x y : A} {u v : B} → f x ≡ u → f y ≡ v → f (cond t x y) ≡ cond t u v
chosen f true e g = e
chosen f false e g = g

pub said-by-number : Numbered
unfolding reason_of numbered
said-by-number why =
    chosen reason_of (eqb why 1) refl
    (chosen reason_of (eqb why 2) refl
    (chosen reason_of (eqb why 3) refl
    (chosen reason_of (eqb why 4) refl
    (chosen reason_of (eqb why 5) refl
    (chosen reason_of (eqb why 6) refl
    (chosen reason_of (eqb why 7) refl
    (chosen reason_of (eqb why 9) refl refl)))))))
