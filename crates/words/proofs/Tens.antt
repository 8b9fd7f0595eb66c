-- Laws of decimals: fifteen digits are all taken, and whole numbers below 2^53 divide as their fraction rounds.
use Rattle.std.proofs.Common.{◌≡◌, ℕ, zero, suc, ◌+◌, ◌-◌, ◌*◌, ◌^◌, ◌<◌, ◌≤◌, Bool, true, false, cond, ◌&&◌, leb, List, [], ◌∷◌, ◌++◌, length, get_or, take, drop, pos, sym, refl, ap, ◌∙◌, append-nil, mul_assoc, mul_comm, mul-pos, mul-one, mul_left_comm, arith, length-append, length-drop, drop_of_length-le, length-take, take_all, pow-add, lt-ltb, eq-eqb, ne_eqb, leb-true, Option, Some, None, is_some, unwrap_or, Result, Ok, Err, is_ok}
use Rattle.std.specs.Result.{result_unwrap_or, result_and}
use native.Mathlib.Nat.{pow-le-pow_right}
use mathlib.Core.Bool.{false≢true}
use mathlib.Core.List.{foldl, foldl-append}
use lib.Ieee.{Float, nan, inf, fin, binary64, up, down, round, div, of_int, of_bits}
use lib.Ieee.Back.{round_whole}
use lib.Ieee.Exact.{HasValue}
use lib.Ieee.Fits.{down_pos}
use lib.Ieee.Positive.{first_pos}
use lib.Ieee.Scale.{round_same}
use Rattle.words.specs.declared.Unreadable.{Unreadable}
use Rattle.words.specs.declared.Unreadable.TheVariants as unreadable
use Rattle.words.specs.declared.volts.TheConstants.{POWERS}
use Rattle.words.specs.Words.{find_of}
use Rattle.words.specs.Numbers.{digit_of, all_digits, well_formed, extended}
use Rattle.words.specs.Decimals.{nearest, quotient_of, decimal_of, plain_of, roomed_of, held_of, digits_of}
use Rattle.words.proofs.Numerals.{fold_more, fold-failed, formed, digit_less}

-- ---- digits

digits-first : (b : ℕ) (bs : List ℕ) → all_digits 10 (b ∷ bs) ≡ true → (unwrap_or (digit_of 10 b) 0 < 10) × (all_digits 10 bs ≡ true)
unfolding all_digits
digits-first b bs h = go (digit_of 10 b) refl h
  where
    go : (o : Option ℕ) → digit_of 10 b ≡ o → foldl (λ (ok : Bool) (c : ℕ). ok && is_some (digit_of 10 c)) (is_some o) bs ≡ true
        → (unwrap_or o 0 < 10) × (foldl (λ (ok : Bool) (c : ℕ). ok && is_some (digit_of 10 c)) true bs ≡ true)
    go (Some d) e g = (digit_less 10 b d e, g)
    go None e g = absurd (false≢true (sym (fold-failed (λ (c : ℕ). is_some (digit_of 10 c)) bs) ∙ g))

digits-both : (a b : List ℕ) → all_digits 10 a ≡ true → all_digits 10 b ≡ true → all_digits 10 (a ++ b) ≡ true
unfolding all_digits
digits-both a b s t = foldl-append (λ (ok : Bool) (c : ℕ). ok && is_some (digit_of 10 c)) true a b ∙ rw s t

formed-digits : (l : List ℕ) → well_formed 10 l ≡ true → all_digits 10 l ≡ true
unfolding well_formed
formed-digits [] h = absurd (false≢true h)
formed-digits (b ∷ bs) h = h

-- ---- fifteen digits have room

-- all of them are taken
held_all : (l : List ℕ) (n k : ℕ) → all_digits 10 l ≡ true → n < 10 ^ k → k + length l ≤ 15 → held_of n l ≡ extended 10 n l
unfolding held_of extended roomed_of
held_all [] n k t h f = refl
held_all (b ∷ bs) n k t h f =
    let d = digits-first b bs t in
    let i : 0 < 10 = omega arith in
    let m : k ≤ 14 = omega arith in
    let p : 10 ^ k ≤ 10 ^ 14 = pow-le-pow_right i m in
    let s : 10 ^ (k + 1) ≡ 10 ^ k * 10 = pow-add 10 k 1 in
    rw (lt-ltb n (10 ^ 14) (omega arith)) (held_all bs (n * 10 + unwrap_or (digit_of 10 b) 0) (k + 1) d.1 (omega arith) (omega arith))

-- one digit more
pub held_more : (n d : ℕ) (l : List ℕ) (i : ℕ) → i < length l → digit_of 10 (get_or l i 0) ≡ Some d → held_of n (take (i + 1) l) ≡ roomed_of (held_of n (take i l)) d
unfolding held_of
held_more n d l i h e = fold_more (λ (m c : ℕ). roomed_of m (unwrap_or (digit_of 10 c) 0)) n l i h ∙ rw e

held_both : (n : ℕ) (a b : List ℕ) → held_of (held_of n a) b ≡ held_of n (a ++ b)
unfolding held_of
held_both n a b = sym (foldl-append (λ (m c : ℕ). roomed_of m (unwrap_or (digit_of 10 c) 0)) n a b)

-- ---- whole numbers, divided

divided : (x y : Float) (n d : ℕ) → 0 < d → HasValue x false n 1 → HasValue y false d 1 → div binary64 x y ≡ round binary64 false n d
unfolding div
divided nan y n d z v w = absurd v
divided (inf t) y n d z v w = absurd v
divided (fin t m e) nan n d z v w = absurd w
divided (fin t m e) (inf u) n d z v w = absurd w
divided (fin t m e) (fin u p g) n d z v w =
    let a : m * up e ≡ n * down e = sym (mul-one (m * up e)) ∙ v.1 in
    let b : p * up g ≡ d * down g = sym (mul-one (p * up g)) ∙ w.1 in
    let c : 0 < p * up g = rw b (mul-pos z (down_pos g)) in
    let f : 0 < p = first_pos p (up g) c in
    let s : m * up e * down g * d ≡ n * (p * up g * down e) = rw (a, b) (simp (mul_assoc, mul_comm, mul_left_comm)) in
    rw (v.0, w.0, ne_eqb p 0 (λ q. omega arith)) (round_same binary64 false (m * up e * down g) (p * up g * down e) n d (mul-pos c (down_pos e)) z s)

-- so many powers of ten from one on
powers : ℕ → ℕ → List Float
powers n zero = []
powers n (suc k) = nearest (10 ^ n) 1 ∷ powers (n + 1) k

power-at : (n k i : ℕ) (d : Float) → i < k → get_or (powers n k) i d ≡ nearest (10 ^ (n + i)) 1
unfolding powers
power-at n zero i d h = absurd (omega arith)
power-at n (suc k) zero d h = let e : n + 0 ≡ n = omega arith in rw e refl
power-at n (suc k) (suc i) d h = let e : n + 1 + i ≡ n + suc i = omega arith in rw (← e) (power-at (n + 1) k i d (omega arith))

powers-held : POWERS ≡ powers 0 16
unfolding powers nearest of_bits
powers-held = refl

-- a power of ten
pub power_is : (places : ℕ) (d : Float) → places ≤ 15 → get_or POWERS places d ≡ nearest (10 ^ places) 1
power_is places d h = let e : 0 + places ≡ places = omega arith in ap (λ (l : List Float). get_or l places d) powers-held ∙ power-at 0 16 places d (omega arith) ∙ rw e

-- digits over a power of ten are rounded once
pub nearest_tens : (n places : ℕ) (x y : Float) → n < 10 ^ 15 → places ≤ 15 → x ≡ of_int binary64 (pos n) → y ≡ nearest (10 ^ places) 1 → div binary64 x y ≡ nearest n (10 ^ places)
unfolding nearest of_int
nearest_tens n places x y h m e f =
    let i : 0 < 10 = omega arith in
    let o : 0 ≤ places = omega arith in
    let low : 10 ^ 0 ≤ 10 ^ places = pow-le-pow_right i o in
    let high : 10 ^ places ≤ 10 ^ 15 = pow-le-pow_right i m in
    rw (e, f) (divided (round binary64 false n 1) (round binary64 false (10 ^ places) 1) n (10 ^ places) (omega arith) (round_whole binary64 false n (omega arith)) (round_whole binary64 false (10 ^ places) (omega arith)))

-- ---- a word's digits

pub digits_empty : (l : List ℕ) (n : ℕ) → length l ≡ 0 → digits_of l n ≡ Err unreadable.Malformed
unfolding digits_of well_formed
digits_empty [] n h = refl
digits_empty (b ∷ bs) n h = absurd (omega arith)

pub digits_malformed : (l : List ℕ) (n : ℕ) → 0 < length l → all_digits 10 l ≡ false → digits_of l n ≡ Err unreadable.Malformed
unfolding digits_of
digits_malformed l n h t = rw (formed 10 l h, t)

pub digits_read : (l : List ℕ) (n : ℕ) → 0 < length l → all_digits 10 l ≡ true → digits_of l n ≡ Ok (held_of n l)
unfolding digits_of
digits_read l n h t = rw (formed 10 l h, t)

-- digits that are read are well formed
digits-fine : (l : List ℕ) (n m : ℕ) → digits_of l n ≡ Ok m → (well_formed 10 l ≡ true) × (m ≡ held_of n l)
unfolding digits_of
digits-fine l n m e = go (well_formed 10 l) e
  where
    go : (t : Bool) → ◌≡◌ {A = Result ℕ Unreadable} (cond t (Ok (held_of n l)) (Err unreadable.Malformed)) (Ok m) → (t ≡ true) × (m ≡ held_of n l)
    go true q = (refl, sym (ap (λ (r : Result ℕ Unreadable). result_unwrap_or r 0) q))
    go false q = absurd (false≢true (ap is_ok q))

-- those that are not read are none
digits-bad : (l : List ℕ) (n : ℕ) (why : Unreadable) → digits_of l n ≡ Err why → (well_formed 10 l ≡ false) × (◌≡◌ {A = Result Float Unreadable} (Err unreadable.Malformed) (Err why))
unfolding digits_of
digits-bad l n why e = go (well_formed 10 l) e
  where
    go : (t : Bool) → ◌≡◌ {A = Result ℕ Unreadable} (cond t (Ok (held_of n l)) (Err unreadable.Malformed)) (Err why) → (t ≡ false) × (◌≡◌ {A = Result Float Unreadable} (Err unreadable.Malformed) (Err why))
    go true q = absurd (false≢true (sym (ap is_ok q)))
    go false q = (refl, ap (λ (r : Result ℕ Unreadable). result_and r (Err why)) q)

-- ---- a word of digits

-- so many digits over a power of ten
over-tens : (l : List ℕ) (places : ℕ) → all_digits 10 l ≡ true → quotient_of (held_of 0 l) (length l) places ≡ quotient_of (extended 10 0 l) (length l) places
unfolding quotient_of
over-tens l places t = go (leb (length l) 15) refl
  where
    go : (b : Bool) → leb (length l) 15 ≡ b
        → ◌≡◌ {A = Result Float Unreadable} (cond b (Ok (nearest (held_of 0 l) (10 ^ places))) (Err unreadable.TooLarge)) (cond b (Ok (nearest (extended 10 0 l) (10 ^ places))) (Err unreadable.TooLarge))
    go true q = ap (λ (n : ℕ). Ok (nearest n (10 ^ places))) (let f = leb-true (length l) 15 q in held_all l 0 0 t (omega arith) (omega arith))
    go false q = refl

module _ (word : List ℕ) (point : ℕ) (p : point ≡ find_of word 0 46) where
  -- without a point
  pub plain_whole : (n : ℕ) → digits_of (take point word) 0 ≡ Ok n → point ≡ length word → plain_of word ≡ quotient_of n (length word) 0
  unfolding plain_of decimal_of
  plain_whole n d e =
      let t : take point word ≡ word = take_all point word (omega arith) in
      let m : length word ≤ point + 1 = omega arith in
      let o : drop (point + 1) word ≡ [] = drop_of_length-le word m in
      let f = digits-fine word 0 n (ap (λ (l : List ℕ). digits_of l 0) (sym t) ∙ d) in
      rw (← p, t, o, append-nil word, eq-eqb point (length word) e, f.0, f.1) (sym (over-tens word 0 (formed-digits word f.0)))

  -- what stands before the point cannot be read
  pub plain_malformed : (why : Unreadable) → digits_of (take point word) 0 ≡ Err why → plain_of word ≡ Err why
  unfolding plain_of
  plain_malformed why d = let f = digits-bad (take point word) 0 why d in rw (← p, f.0) f.1

  -- what stands behind it cannot be read
  pub plain_broken : (n : ℕ) (why : Unreadable) → digits_of (take point word) 0 ≡ Ok n → (point ≡ length word → ⊥) → digits_of (drop (point + 1) word) n ≡ Err why → plain_of word ≡ Err why
  unfolding plain_of
  plain_broken n why d h e =
      let f = digits-fine (take point word) 0 n d in
      let g = digits-bad (drop (point + 1) word) n why e in
      rw (← p, f.0, ne_eqb point (length word) h, g.0) g.1

  -- with a point
  pub plain_both : (n all : ℕ) → digits_of (take point word) 0 ≡ Ok n → point < length word → digits_of (drop (point + 1) word) n ≡ Ok all → plain_of word ≡ quotient_of all (length word - 1) (length word - (point + 1))
  unfolding plain_of decimal_of
  plain_both n all d h e =
      let f = digits-fine (take point word) 0 n d in
      let g = digits-fine (drop (point + 1) word) n all e in
      let m : length (drop (point + 1) word) ≡ length word - (point + 1) = length-drop (point + 1) word in
      let b : length (take point word ++ drop (point + 1) word) ≡ length word - 1 = simp (length-append, length-take, length-drop) (omega arith) in
      let held : all ≡ held_of 0 (take point word ++ drop (point + 1) word) = g.1 ∙ rw f.1 (held_both 0 (take point word) (drop (point + 1) word)) in
      rw (← p, f.0, ne_eqb point (length word) (λ q. omega arith), g.0, ← m, ← b, held)
      (sym (over-tens (take point word ++ drop (point + 1) word) (length (drop (point + 1) word)) (digits-both (take point word) (drop (point + 1) word) (formed-digits (take point word) f.0) (formed-digits (drop (point + 1) word) g.0))))
