-- Laws of texts as bytes: one after the other, and decimal digits.
use Prim.Native.Nat.{ℕ, zero, suc, ◌+◌, ◌-◌, ◌/◌, ◌%◌, ◌≤◌, ◌<◌, ◌^◌}
use native.Mathlib.Omega.{arith}
use native.Mathlib.Decide.{dec_le}
use native.Mathlib.Nat.{not-suc-le-zero, pow-succ'}
use mathlib.Core.Path.{◌≡◌, refl, ◌∙◌}
use mathlib.Core.Bool.{cond}
use mathlib.Core.List.{List, [], ◌∷◌, ◌++◌, append_assoc, append-nil}
use lib.Dec.{ltb}
use lib.ListN.{length, take, drop, length-append}
use borrow.Author.Tests.{lt-ltb, le-ltb}
use lib.Seq.{drop-drop}
use borrow.Rule.Slice.PartMut.{put_mid}
use Rattle.std.proofs.lemmas.List.Edits.{sets-eq}
use Rattle.records.proofs.Records.{sets-append, sets-front, take-sets}
use Rattle.figures.specs.Figures.{digits, decimal, number, Wrote}

-- bytes, then others right after them
pub wrote_then : {a b c : List ℕ} {at p q : ℕ} {x y : List ℕ} → Wrote a b at p x → Wrote b c p q y → Wrote a c at q (x ++ y)
wrote_then {a} {b} {c} {at} {p} {q} {x} {y} v w =
    let n = length-append x y in
    record { place = omega arith; area = w.area ∙ rw (v.place, v.area) (sets-append a at x y) }

pub wrote-regroup : {a c : List ℕ} {at q : ℕ} (x y z : List ℕ) → Wrote a c at q (x ++ (y ++ z)) → Wrote a c at q (x ++ y ++ z)
wrote-regroup x y z w = rw (append_assoc x y z) w

-- what was copied into a part of an area
pub wrote_part : (old new bytes : List ℕ) (at end : ℕ) → new ≡ bytes → end ≡ at + length bytes → at + length bytes ≤ length old → Wrote old (put_mid at (end - at) old new) at end bytes
wrote_part old new bytes at end same last room =
    let count : end - at ≡ length bytes = omega arith in
    record { place = last; area = rw (same, count, drop-drop, sets-eq bytes old at room) (simp append_assoc) }

-- nothing
pub wrote_none : (a : List ℕ) (at : ℕ) → Wrote a a at at []
wrote_none a at = record { place = omega arith; area = refl }

-- from the start of an area: the bytes, then the rest as it was
pub wrote-front : {a b : List ℕ} {r : ℕ} {d : List ℕ} → Wrote a b 0 r d → r ≤ length a → (r ≡ length d) × (b ≡ d ++ drop (length d) a)
wrote-front {a} {b} {r} {d} w h = (omega arith, w.area ∙ sets-front a d (omega arith))

-- and so they are read back
pub wrote-read : {a b : List ℕ} {r : ℕ} {d : List ℕ} → Wrote a b 0 r d → r ≤ length a → take r b ≡ d
wrote-read {a} {b} {r} {d} w h =
    let e : r ≡ length d = omega arith in
    rw (e, w.area) (take-sets a d (omega arith))

-- ---- decimal digits

-- more digits than a number has make no difference
digits-enough : (j k n : ℕ) → n < j → n < k → digits j n ≡ digits k n
unfolding digits
digits-enough zero k n p q = absurd (not-suc-le-zero p)
digits-enough (suc j) zero n p q = absurd (not-suc-le-zero q)
digits-enough (suc j) (suc k) n p q = go (digits-enough j k (n / 10)) (dec_le 10 n)
  where
    go : (n / 10 < j → n / 10 < k → digits j (n / 10) ≡ digits k (n / 10)) → Dec (10 ≤ n) → cond (ltb n 10) [] (digits j (n / 10)) ++ (48 + n % 10) ∷ [] ≡ cond (ltb n 10) [] (digits k (n / 10)) ++ (48 + n % 10) ∷ []
    go rest (yes h) = rw (rest (omega arith) (omega arith))
    go rest (no h) = rw (lt-ltb n 10 (omega arith))

-- a number below ten is its digit
pub decimal-one : (n : ℕ) → n < 10 → decimal n ≡ (48 + n % 10) ∷ []
unfolding decimal digits
decimal-one n h = rw (lt-ltb n 10 h)

-- any other has one digit more than its tenth
pub decimal-more : (n : ℕ) → 10 ≤ n → decimal n ≡ decimal (n / 10) ++ (48 + n % 10) ∷ []
unfolding decimal digits
decimal-more n h = rw (le-ltb n 10 h, digits-enough n (suc (n / 10)) (n / 10) (omega arith) (omega arith))

digits-length : (j k n : ℕ) → n < 10 ^ suc k → length (digits j n) ≤ suc k
unfolding digits
digits-length zero k n h = omega arith
digits-length (suc j) k n h = go k h (digits-length j) (dec_le 10 n)
  where
    go : (k : ℕ) → n < 10 ^ suc k → ((k n : ℕ) → n < 10 ^ suc k → length (digits j n) ≤ suc k) → Dec (10 ≤ n)
        → length (cond (ltb n 10) [] (digits j (n / 10)) ++ (48 + n % 10) ∷ []) ≤ suc k
    go k h rest (no q) = rw (lt-ltb n 10 (omega arith)) (omega arith)
    go zero h rest (yes q) = absurd (omega arith)
    go (suc k) h rest (yes q) =
        let p = pow-succ' 10 (suc k) in
        let r = rest k (n / 10) (omega arith) in
        rw (le-ltb n 10 q) (simp length-append (omega arith))

-- a number below 10^k has at most k digits
pub decimal-length : (k n : ℕ) → n < 10 ^ suc k → length (decimal n) ≤ suc k
unfolding decimal
decimal-length k n h = digits-length (suc n) k n h

-- and as many as it may have are its own
digits_decimal : (j k n : ℕ) → n < j → n < 10 ^ suc k → digits j n ≡ digits (suc k) n
unfolding digits
digits_decimal zero k n p q = absurd (not-suc-le-zero p)
digits_decimal (suc j) k n p q = go k q (digits_decimal j) (dec_le 10 n)
  where
    go : (k : ℕ) → n < 10 ^ suc k → ((k n : ℕ) → n < j → n < 10 ^ suc k → digits j n ≡ digits (suc k) n) → Dec (10 ≤ n)
        → cond (ltb n 10) [] (digits j (n / 10)) ++ (48 + n % 10) ∷ [] ≡ cond (ltb n 10) [] (digits k (n / 10)) ++ (48 + n % 10) ∷ []
    go k q rest (no h) = rw (lt-ltb n 10 (omega arith))
    go zero q rest (yes h) = absurd (omega arith)
    go (suc k) q rest (yes h) =
        let a = pow-succ' 10 (suc k) in
        rw (rest k (n / 10) (omega arith) (omega arith))

-- a number of 64 bits is written whole
pub number-decimal : (n : ℕ) → n < 2 ^ 64 → decimal n ≡ number n
unfolding decimal number
number-decimal n h = digits_decimal (suc n) 19 n (omega arith) (omega arith)

digits-short : (k n : ℕ) → length (digits k n) ≤ k
unfolding digits
digits-short zero n = omega arith
digits-short (suc k) n = go (digits-short k (n / 10)) (dec_le 10 n)
  where
    go : length (digits k (n / 10)) ≤ k → Dec (10 ≤ n) → length (cond (ltb n 10) [] (digits k (n / 10)) ++ (48 + n % 10) ∷ []) ≤ suc k
    go rest (no h) = rw (lt-ltb n 10 (omega arith)) (omega arith)
    go rest (yes h) = rw (le-ltb n 10 h) (simp length-append (omega arith))

-- in twenty digits at most
pub number_short : (n : ℕ) → length (number n) ≤ 20
unfolding number
number_short n = digits-short 20 n

-- ---- a text that is written from its start on

-- what is written, so that with the rest it is the whole
pub record Writing (old new : List ℕ) (from at : ℕ) (rest all : List ℕ) : Type 0 where
  pub done : List ℕ
  pub wrote : Wrote old new from at done
  pub whole : done ++ rest ≡ all

-- nothing yet
pub writing-none : (a : List ℕ) (at : ℕ) (all : List ℕ) → Writing a a at at all all
writing-none a at all = record { done = []; wrote = wrote_none a at; whole = refl }

-- more of it
pub writing_more : {a b c : List ℕ} {from p q : ℕ} {x rest : List ℕ} {all : List ℕ} → Writing a b from p (x ++ rest) all → Wrote b c p q x → Writing a c from q rest all
writing_more {x = x} {rest = rest} v w = record { done = v.done ++ x; wrote = wrote_then v.wrote w; whole = append_assoc v.done x rest ∙ v.whole }

-- all of it
pub writing-all : {a b : List ℕ} {from p : ℕ} {all : List ℕ} → Writing a b from p [] all → Wrote a b from p all
writing-all {a} {b} {from} {p} v = rw (← v.whole, append-nil v.done) v.wrote
