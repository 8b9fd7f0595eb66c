-- Zeros behind the bytes of the items.
use Prim.Native.Nat.{ℕ, zero, suc, ◌+◌, ◌*◌, ◌/◌, ◌-◌, ◌≤◌, ◌<◌}
use native.Mathlib.Omega.{arith}
use mathlib.Core.List.{List}
use mathlib.Core.Path.{◌≡◌, refl, sym, ap, ◌∙◌}
use lib.ListN.{length, take, drop, replicate, length-drop, take-append-drop}
use lib.Seq.{drop-drop, length-take-le}
use borrow.Rule.Slice.PartMut.{put_mid, same_len_mid}
use Rattle.std.proofs.lemmas.Slice.{drop-put_mid}
use Rattle.list_lines.specs.declared.made.Items.TheInside.{Inside}
use Rattle.list_lines.specs.Kept.{kept, kept_in, Packed}

-- the bytes alone give the fields back
pub packed : (bytes : List ℕ) (items : ℕ) → length bytes ≡ 4000 → items ≤ 400 → drop (10 * items) bytes ≡ replicate (4000 - 10 * items) 0 → Packed (record { bytes = bytes; items = items })
packed bytes items n l h =
    let e : 10 * items / 10 ≡ items = omega arith in
    record {
      items = l;
      behind = h;
      whole = rw (length-take-le (10 * items) bytes (omega (arith, l, n)), e, ← h, take-append-drop (10 * items) bytes) refl;
    }

abbrev zeros : ℕ → List ℕ
zeros n = replicate n 0

drop-zeros : (n m : ℕ) → drop n (zeros m) ≡ zeros (m - n)
drop-zeros zero m = let e : m - 0 ≡ m = omega arith in ap zeros (sym e)
drop-zeros (suc n) zero = let e : 0 - suc n ≡ 0 = omega arith in ap zeros (sym e)
drop-zeros (suc n) (suc m) = let e : suc m - suc n ≡ m - n = omega arith in drop-zeros n m ∙ ap zeros (sym e)

-- ten bytes stored behind the others
pub push_kept : (bytes item : List ℕ) (items k : ℕ) → length bytes ≡ 4000 → items < 400 → k ≡ 10 → length item ≡ k → drop (10 * items) bytes ≡ replicate (4000 - 10 * items) 0 → Packed (record { bytes = put_mid (10 * items) k bytes item; items = items + 1 })
push_kept bytes item items k n h m l z =
    let e : 10 * (items + 1) ≡ 10 * items + 10 = omega arith in
    let f : 4000 - 10 * items - 10 ≡ 4000 - 10 * (items + 1) = omega arith in
    let room : k ≤ length (drop (10 * items) bytes) = omega (arith, length-drop (10 * items) bytes) in
    packed (put_mid (10 * items) k bytes item) (items + 1) (same_len_mid (10 * items) k bytes item (l ∙ sym (length-take-le k (drop (10 * items) bytes) room)) ∙ n) (omega arith)
    (drop-put_mid (10 * items) k bytes item (10 * (items + 1)) (omega arith) (omega arith) l ∙ ap (λ (j : ℕ). drop j bytes) e ∙ sym (drop-drop 10 (10 * items) bytes) ∙ ap (drop 10) z ∙ drop-zeros 10 (4000 - 10 * items) ∙ ap zeros f)
