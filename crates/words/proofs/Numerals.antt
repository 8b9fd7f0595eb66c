-- Laws of digits and of the numbers that they make.
use Rattle.std.proofs.Common.{◌≡◌, ℕ, ◌+◌, ◌-◌, ◌*◌, ◌<◌, ◌≤◌, Bool, true, false, cond, ◌&&◌, ltb, leb, List, [], ◌∷◌, length, get_or, take, drop, sym, refl, ap, ◌∙◌, le-mul_of_pos_right, add-one, arith, take-append-drop, take-suc, le-leb, leb-false, leb-true, ltb-true, lt-ltb, Option, Some, None, is_some, unwrap_or, ok_or, Result, Ok, Err, IfOk}
use mathlib.Core.Bool.{false≢true}
use mathlib.Core.List.{foldl, foldl-append}
use borrow.Author.Tests.{lt-leb}
use Rattle.words.specs.declared.Unreadable.{Unreadable}
use Rattle.words.specs.declared.Unreadable.TheVariants as unreadable
use Rattle.words.specs.declared.Taken.{Taken}
use Rattle.words.specs.Words.{find_of, skip_of, and_then}
use Rattle.words.specs.Numbers.{among, below, digit_of, all_digits, extended, well_formed, limited, longer_of, numeral_of, digits_numeral_of, between, next_of}

-- ---- a loop over a line

-- one byte more
pub fold_more : {A : Type 0} (f : A → ℕ → A) (a : A) (l : List ℕ) (i : ℕ) → i < length l → foldl f a (take (i + 1) l) ≡ f (foldl f a (take i l)) (get_or l i 0)
fold_more f a l i h = rw (add-one i, take-suc l i 0 h) (foldl-append f a (take i l) (get_or l i 0 ∷ []))

-- up to a place, and then the rest
pub fold-rest : {A : Type 0} (f : A → ℕ → A) (a : A) (l : List ℕ) (i : ℕ) → foldl f a l ≡ foldl f (foldl f a (take i l)) (drop i l)
fold-rest f a l i = ap (foldl f a) (sym (take-append-drop i l)) ∙ foldl-append f a (take i l) (drop i l)

-- a test of every byte, once it failed
pub fold-failed : (p : ℕ → Bool) (l : List ℕ) → foldl (λ (ok : Bool) (b : ℕ). ok && p b) false l ≡ false
fold-failed p [] = refl
fold-failed p (b ∷ bs) = fold-failed p bs

-- ---- digits

pub among_in : (low high b : ℕ) → low ≤ b → b ≤ high → among low high b ≡ true
among_in low high b l h = rw (le-leb low b l, le-leb b high h)

pub among-above : (low high b : ℕ) → low ≤ b → high < b → among low high b ≡ false
among-above low high b l h = rw (le-leb low b l, lt-leb b high h)

below-less : (radix n d : ℕ) → below radix n ≡ Some d → d < radix
below-less radix n d h = go (ltb n radix) refl h
  where
    go : (t : Bool) → ltb n radix ≡ t → ◌≡◌ {A = Option ℕ} (cond t (Some n) None) (Some d) → d < radix
    go true e q = rw (← ap (λ (o : Option ℕ). unwrap_or o 0) q) (ltb-true n radix e)
    go false e q = absurd (false≢true (ap is_some q))

-- a digit is below its radix
pub digit_less : (radix b d : ℕ) → digit_of radix b ≡ Some d → d < radix
unfolding digit_of
digit_less radix b d h = go (among 48 57 b) (among 65 70 b) (among 97 102 b) h
  where
    go : (t u v : Bool) → ◌≡◌ {A = Option ℕ} (cond t (below radix (b - 48)) (cond u (below radix (b - 65 + 10)) (cond v (below radix (b - 97 + 10)) (below radix 16)))) (Some d) → d < radix
    go true u v q = below-less radix (b - 48) d q
    go false true v q = below-less radix (b - 65 + 10) d q
    go false false true q = below-less radix (b - 97 + 10) d q
    go false false false q = below-less radix 16 d q

-- one digit more
pub extended_more : (radix n d : ℕ) (l : List ℕ) (i : ℕ) → i < length l → digit_of radix (get_or l i 0) ≡ Some d → extended radix n (take (i + 1) l) ≡ extended radix n (take i l) * radix + d
unfolding extended
extended_more radix n d l i h e = fold_more (λ (m b : ℕ). m * radix + unwrap_or (digit_of radix b) 0) n l i h ∙ rw e

pub digits_more : (radix d : ℕ) (l : List ℕ) (i : ℕ) → i < length l → all_digits radix (take i l) ≡ true → digit_of radix (get_or l i 0) ≡ Some d → all_digits radix (take (i + 1) l) ≡ true
unfolding all_digits
digits_more radix d l i h t e = fold_more (λ (ok : Bool) (b : ℕ). ok && is_some (digit_of radix b)) true l i h ∙ rw (t, e)

-- a byte that is none
pub digits_failed : (radix : ℕ) (l : List ℕ) (i : ℕ) → i < length l → all_digits radix (take i l) ≡ true → digit_of radix (get_or l i 0) ≡ None → all_digits radix l ≡ false
unfolding all_digits
digits_failed radix l i h t e =
    let f : Bool → ℕ → Bool = λ ok b. ok && is_some (digit_of radix b) in
    fold-rest f true l (i + 1) ∙ rw (fold_more f true l i h, t, e) (fold-failed (λ (b : ℕ). is_some (digit_of radix b)) (drop (i + 1) l))

-- ---- numbers

-- a number that is too large stays so
pub longer_limited : (most v d radix : ℕ) → d < radix → longer_of (limited most v) d radix most ≡ limited most (v * radix + d)
unfolding longer_of limited
longer_limited most v d radix h = go (leb v most) refl
  where
    go : (t : Bool) → leb v most ≡ t → longer_of (limited most v) d radix most ≡ limited most (v * radix + d)
    go true e = rw e
    go false e =
        let p : 0 < radix = omega arith in
        let m = le-mul_of_pos_right v p in
        let g = leb-false v most e in
        rw (e, lt-leb (v * radix + d) most (omega arith))

-- a word that is not empty
pub formed : (radix : ℕ) (l : List ℕ) → 0 < length l → well_formed radix l ≡ all_digits radix l
unfolding well_formed
formed radix [] h = absurd (omega arith)
formed radix (b ∷ bs) h = refl

-- an empty word
pub numeral_empty : (l : List ℕ) (radix most : ℕ) → length l ≡ 0 → numeral_of l radix most ≡ Err unreadable.Malformed
unfolding numeral_of well_formed
numeral_empty [] radix most h = refl
numeral_empty (b ∷ bs) radix most h = absurd (omega arith)

-- a word with a byte that is no digit
pub numeral_malformed : (l : List ℕ) (radix most : ℕ) → 0 < length l → all_digits radix l ≡ false → numeral_of l radix most ≡ Err unreadable.Malformed
unfolding numeral_of
numeral_malformed l radix most h t = rw (formed radix l h, t)

-- a word of digits
pub numeral_digits : (l : List ℕ) (radix most : ℕ) → 0 < length l → all_digits radix l ≡ true → numeral_of l radix most ≡ ok_or (limited most (extended radix 0 l)) unreadable.TooLarge
unfolding numeral_of
numeral_digits l radix most h t = rw (formed radix l h, t)

-- ---- a word of digits

-- a test of every byte, and a wider one
fold-wider : (p q : ℕ → Bool) → ((b : ℕ) → p b ≡ true → q b ≡ true) → (l : List ℕ) (a : Bool) → foldl (λ (ok : Bool) (b : ℕ). ok && p b) a l ≡ true → foldl (λ (ok : Bool) (b : ℕ). ok && q b) a l ≡ true
fold-wider p q w [] a h = h
fold-wider p q w (b ∷ bs) false h = absurd (false≢true (sym (fold-failed p bs) ∙ h))
fold-wider p q w (b ∷ bs) true h = go (p b) refl h (fold-wider p q w bs true)
  where
    go : (t : Bool) → p b ≡ t → foldl (λ (ok : Bool) (c : ℕ). ok && p c) t bs ≡ true
        → (foldl (λ (ok : Bool) (c : ℕ). ok && p c) true bs ≡ true → foldl (λ (ok : Bool) (c : ℕ). ok && q c) true bs ≡ true)
        → foldl (λ (ok : Bool) (c : ℕ). ok && q c) (q b) bs ≡ true
    go true e k rest = rw (w b e) (rest k)
    go false e k rest = absurd (false≢true (sym (fold-failed p bs) ∙ k))

below-wider : (radix n : ℕ) → radix ≤ 16 → is_some (below radix n) ≡ true → is_some (below 16 n) ≡ true
below-wider radix n h k = go (ltb n radix) refl k
  where
    go : (t : Bool) → ltb n radix ≡ t → is_some (cond t (Some n) None) ≡ true → is_some (below 16 n) ≡ true
    go true e q = rw (lt-ltb n 16 (omega (arith, h, ltb-true n radix e)))
    go false e q = absurd (false≢true q)

-- a digit of a radix is a hexadecimal one
digit-wider : (radix : ℕ) → radix ≤ 16 → (b : ℕ) → is_some (digit_of radix b) ≡ true → is_some (digit_of 16 b) ≡ true
unfolding digit_of
digit-wider radix h b k = go (among 48 57 b) (among 65 70 b) (among 97 102 b) k
  where
    worth : Bool → Bool → Bool → ℕ → Option ℕ
    worth t u v r = cond t (below r (b - 48)) (cond u (below r (b - 65 + 10)) (cond v (below r (b - 97 + 10)) (below r 16)))

    go : (t u v : Bool) → is_some (worth t u v radix) ≡ true → is_some (worth t u v 16) ≡ true
    go true u v q = below-wider radix (b - 48) h q
    go false true v q = below-wider radix (b - 65 + 10) h q
    go false false true q = below-wider radix (b - 97 + 10) h q
    go false false false q = below-wider radix 16 h q

digits-wider : (radix : ℕ) (l : List ℕ) → radix ≤ 16 → all_digits radix l ≡ true → all_digits 16 l ≡ true
unfolding all_digits
digits-wider radix l h t = fold-wider (λ (b : ℕ). is_some (digit_of radix b)) (λ (b : ℕ). is_some (digit_of 16 b)) (digit-wider radix h) l true t

-- a word with a byte that is no hexadecimal digit
pub numeral_undigits : (l : List ℕ) (radix most : ℕ) → radix ≤ 16 → all_digits 16 l ≡ false → numeral_of l radix most ≡ Err unreadable.Malformed
numeral_undigits [] radix most h e = numeral_empty [] radix most refl
numeral_undigits (b ∷ bs) radix most h e = numeral_malformed (b ∷ bs) radix most (omega arith) (go (all_digits radix (b ∷ bs)) refl)
  where
    go : (t : Bool) → all_digits radix (b ∷ bs) ≡ t → t ≡ false
    go true k = absurd (false≢true (sym e ∙ digits-wider radix (b ∷ bs) h k))
    go false k = refl

-- in a radix up to 16 every number is one of digits
pub digits_numeral_small : (l : List ℕ) (radix most : ℕ) → radix ≤ 16 → digits_numeral_of l radix most ≡ numeral_of l radix most
unfolding digits_numeral_of
digits_numeral_small l radix most h = go (all_digits 16 l) refl
  where
    go : (t : Bool) → all_digits 16 l ≡ t → cond t (numeral_of l radix most) (Err unreadable.Malformed) ≡ numeral_of l radix most
    go true e = refl
    go false e = sym (numeral_undigits l radix most h e)

-- an empty word
pub digits_numeral_empty : (l : List ℕ) (radix most : ℕ) → length l ≡ 0 → digits_numeral_of l radix most ≡ Err unreadable.Malformed
unfolding digits_numeral_of
digits_numeral_empty l radix most h = go (all_digits 16 l)
  where
    go : (t : Bool) → cond t (numeral_of l radix most) (Err unreadable.Malformed) ≡ Err unreadable.Malformed
    go true = numeral_empty l radix most h
    go false = refl

-- a word with a byte that is no digit of the radix
pub digits_numeral_malformed : (l : List ℕ) (radix most : ℕ) → 0 < length l → all_digits 16 l && all_digits radix l ≡ false → digits_numeral_of l radix most ≡ Err unreadable.Malformed
unfolding digits_numeral_of
digits_numeral_malformed l radix most h e = go (all_digits 16 l) e
  where
    go : (t : Bool) → t && all_digits radix l ≡ false → cond t (numeral_of l radix most) (Err unreadable.Malformed) ≡ Err unreadable.Malformed
    go true k = numeral_malformed l radix most h k
    go false k = refl

-- a word of digits of the radix
pub digits_numeral_digits : (l : List ℕ) (radix most : ℕ) → 0 < length l → all_digits 16 l ≡ true → all_digits radix l ≡ true → digits_numeral_of l radix most ≡ ok_or (limited most (extended radix 0 l)) unreadable.TooLarge
unfolding digits_numeral_of
digits_numeral_digits l radix most h d t = rw d (numeral_digits l radix most h t)

-- ---- how large it is

-- what can be read is at most the most
pub numeral_most : (l : List ℕ) (radix most : ℕ) → IfOk (numeral_of l radix most) (λ n. n ≤ most)
unfolding numeral_of limited
numeral_most l radix most = go (well_formed radix l) (leb (extended radix 0 l) most) refl
  where
    go : (t u : Bool) → leb (extended radix 0 l) most ≡ u
        → IfOk {E = Unreadable} (cond t (ok_or (cond u (Some (extended radix 0 l)) None) unreadable.TooLarge) (Err unreadable.Malformed)) (λ n. n ≤ most)
    go true true e = leb-true (extended radix 0 l) most e
    go true false e = tt
    go false u e = tt

-- so is what can be read of a word of digits alone
pub digits_numeral_most : (l : List ℕ) (radix most : ℕ) → IfOk (digits_numeral_of l radix most) (λ n. n ≤ most)
unfolding digits_numeral_of
digits_numeral_most l radix most = go (all_digits 16 l)
  where
    go : (t : Bool) → IfOk (cond t (numeral_of l radix most) (Err unreadable.Malformed)) (λ n. n ≤ most)
    go true = numeral_most l radix most
    go false = tt

-- ---- the next number of a line

-- what holds of each value that follows holds of what follows
pub and_then-ok : {A B E : Type 0} (P : B → Type 0) (r : Result A E) (f : A → Result B E) → ((x : A) → r ≡ Ok x → IfOk (f x) P) → IfOk (and_then r f) P
unfolding and_then
and_then-ok P (Ok x) f h = h x refl
and_then-ok P (Err e) f h = tt

-- it is at most the most
pub next-most : (text : List ℕ) (at radix most : ℕ) → IfOk (next_of text at radix most) (λ t. t.value ≤ most)
unfolding next_of and_then
next-most text at radix most = go (numeral_of word radix most) (numeral_most word radix most)
  where
    word : List ℕ
    word = between text (skip_of text at) (find_of text (skip_of text at) 32)

    go : (r : Result ℕ Unreadable) → IfOk r (λ n. n ≤ most) → IfOk (and_then r (λ n. Ok (record { value = n; end = find_of text (skip_of text at) 32 }))) (λ (t : Taken). t.value ≤ most)
    go (Ok n) h = h
    go (Err e) h = tt
