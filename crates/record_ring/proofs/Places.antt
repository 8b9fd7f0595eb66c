-- Laws of the places: what is stored at one is read there, and leaves the others as they were.
use Rattle.std.proofs.Common.{ℕ, ◌+◌, ◌-◌, ◌*◌, ◌≤◌, ◌<◌, ◌≡◌, sym, ap, ◌∙◌, List, ◌++◌, length, take, drop, append_assoc, arith, refl}
use Rattle.std.proofs.lemmas.List.Edits.{sets, sets-eq}
use Rattle.std.proofs.lemmas.Slice.{between_is, take-put_mid_below, drop-put_mid, between-put_mid}
use native.Mathlib.Decide.{dec_lt}
use borrow.Rule.Slice.PartMut.{put_mid}
use lib.Seq.{drop-drop}
use Rattle.records.specs.Records.{record_at}

-- a part of the area, written as one, holds what stores of one byte after the other leave
pub put_mid_sets : (l ys vs : List ℕ) (i k : ℕ) → ys ≡ vs → k ≡ length vs → i + length vs ≤ length l → put_mid i k l ys ≡ sets l i vs
put_mid_sets l ys vs i k e f h =
    rw (e, f) (ap (λ (t : List ℕ). take i l ++ (vs ++ t)) (drop-drop (length vs) i l) ∙ sym (sets-eq vs l i h ∙ append_assoc (take i l) vs (drop (i + length vs) l)))

-- a part by its place and length
part : (l : List ℕ) (m n : ℕ) → take n (drop m l) ≡ drop m (take (m + n) l)
part l m n = let e : m + n - m ≡ n = omega arith in rw e at (between_is l m (m + n))

module _ (area bytes : List ℕ) (ten : length bytes ≡ 10) (p : ℕ) (room : 10 * p + 10 ≤ length area) where
  -- a record added at a place is read there
  pub at_place : record_at (sets area (10 * p) bytes) p ≡ bytes
  unfolding record_at
  at_place =
      let e : 10 * p + 10 - 10 * p ≡ 10 = omega arith in
      rw (← put_mid_sets area bytes bytes (10 * p) 10 refl (sym ten) (omega arith))
      (rw e at (between-put_mid (10 * p) 10 area bytes (10 * p + 10) (omega arith) (omega arith)))

  -- and those at the other places are as they were
  pub elsewhere : (q : ℕ) → (q ≡ p → ⊥) → record_at (sets area (10 * p) bytes) q ≡ record_at area q
  unfolding record_at
  elsewhere q other = rw (← put_mid_sets area bytes bytes (10 * p) 10 refl (sym ten) (omega arith)) (go (dec_lt p q))
    where
      go : Dec (p < q) → take 10 (drop (10 * q) (put_mid (10 * p) 10 area bytes)) ≡ take 10 (drop (10 * q) area)
      go (yes h) = ap (take 10) (drop-put_mid (10 * p) 10 area bytes (10 * q) (omega arith) (omega arith) ten)
      go (no h) =
          part (put_mid (10 * p) 10 area bytes) (10 * q) 10
          ∙ ap (drop (10 * q)) (take-put_mid_below (10 * p) 10 area bytes (10 * q + 10) (omega (arith, h, other)) (omega arith))
          ∙ sym (part area (10 * q) 10)
