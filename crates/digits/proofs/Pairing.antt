-- Laws of digits taken pair by pair.
use Rattle.std.proofs.Common.{◌≡◌, ℕ, ◌+◌, ◌/◌, ◌%◌, ◌<◌, ◌≤◌, List, [], ◌∷◌, ◌++◌, length, get_or, take, drop, refl, sym, ap, ◌∙◌, add-one, take-suc, take-append-drop, take_all, Result, Ok, Err}
use lib.Seq.{drop-cons}
use borrow.Author.Tests.{eq-eqb, le-leb}
use Rattle.std.specs.Simd.{first_chunks}
use Rattle.words.specs.declared.Unreadable.{Unreadable}
use Rattle.words.specs.Words.{and_then}
use Rattle.words.specs.Numbers.{numeral_of}
use Rattle.digits.specs.Spelling.{paired, spelt}

-- no pair
pub paired_none : paired [] ≡ Ok []
unfolding paired
paired_none = refl

-- some pairs, then others
abbrev both : Result (List ℕ) Unreadable → Result (List ℕ) Unreadable → Result (List ℕ) Unreadable
both s t = and_then s (λ a. and_then t (λ b. Ok (a ++ b)))

paired-append : (ps qs : List (List ℕ)) → paired (ps ++ qs) ≡ both (paired ps) (paired qs)
unfolding paired and_then
paired-append [] qs = go (paired qs)
  where
    go : (t : Result (List ℕ) Unreadable) → t ≡ both (Ok []) t
    go (Ok b) = refl
    go (Err e) = refl
paired-append (p ∷ ps) qs = rw (paired-append ps qs) (go (numeral_of p 16 255) (paired ps) (paired qs))
  where
    go : (r : Result ℕ Unreadable) (s t : Result (List ℕ) Unreadable) → and_then r (λ n. and_then (both s t) (λ l. Ok (n ∷ l))) ≡ both (and_then r (λ n. and_then s (λ l. Ok (n ∷ l)))) t
    go (Ok n) (Ok a) (Ok b) = refl
    go (Ok n) (Ok a) (Err e) = refl
    go (Ok n) (Err e) t = refl
    go (Err e) s t = refl

module _ (ps : List (List ℕ)) (i : ℕ) (bytes : List ℕ) (h : i < length ps) (e : paired (take i ps) ≡ Ok bytes) where
  -- one pair more
  pub paired_more : (n : ℕ) → numeral_of (get_or ps i []) 16 255 ≡ Ok n → paired (take (i + 1) ps) ≡ Ok (bytes ++ n ∷ [])
  unfolding paired and_then
  paired_more n k = rw (add-one i, take-suc ps i [] h) (paired-append (take i ps) (get_or ps i [] ∷ []) ∙ rw (e, k))

  -- one that is none
  pub paired_failed : (why : Unreadable) → numeral_of (get_or ps i []) 16 255 ≡ Err why → paired ps ≡ Err why
  unfolding paired and_then
  paired_failed why k = ap paired (sym (take-append-drop i ps)) ∙ paired-append (take i ps) (drop i ps) ∙ rw (e, drop-cons ps i [] h, k)

-- all of them
pub paired_all : (ps : List (List ℕ)) (i : ℕ) (bytes : List ℕ) → length ps ≤ i → paired (take i ps) ≡ Ok bytes → paired ps ≡ Ok bytes
paired_all ps i bytes h e = rw (take_all i ps h) at e

-- a word that has so many pairs and room for them
pub spelt_paired : (word : List ℕ) (room : ℕ) → length word % 2 ≡ 0 → length word / 2 ≤ room → spelt word room ≡ paired (first_chunks 2 (length word / 2) word)
unfolding spelt
spelt_paired word room e h = rw (eq-eqb (length word % 2) 0 e, le-leb (length word / 2) room h)
