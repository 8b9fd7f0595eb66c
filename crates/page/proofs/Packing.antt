-- Zeros behind the bytes of a page.
use Prim.Native.Nat.{ℕ, zero, suc, ◌+◌, ◌-◌, ◌≤◌, ◌<◌}
use native.Mathlib.Omega.{arith}
use mathlib.Core.List.{List, ◌++◌}
use mathlib.Core.Path.{◌≡◌, refl, sym, ap, ◌∙◌}
use lib.ListN.{length, set, take, drop, replicate, length-set, length-drop, length-replicate, take-append-drop}
use lib.Seq.{drop-drop, drop-set-lt, drop-append_seam, length-take-le}
use borrow.Rule.Slice.PartMut.{put_mid, same_len_mid}
use Rattle.std.proofs.lemmas.List.{replicate-append-replicate}
use Rattle.page.specs.declared.Page.TheInside.{Inside}
use Rattle.page.specs.Kept.{kept, kept_in, Packed}

-- the bytes alone give the fields back
pub packed : (bytes : List ℕ) (len : ℕ) → length bytes ≡ 32768 → len ≤ 32768 → drop len bytes ≡ replicate (32768 - len) 0 → Packed (record { bytes = bytes; len = len })
packed bytes len n l h =
    record {
      len = l;
      behind = h;
      whole = rw (length-take-le len bytes (omega (arith, l, n)), ← h, take-append-drop len bytes) refl;
    }

abbrev zeros : ℕ → List ℕ
zeros n = replicate n 0

drop-zeros : (n m : ℕ) → drop n (zeros m) ≡ zeros (m - n)
drop-zeros zero m = let e : m - 0 ≡ m = omega arith in ap zeros (sym e)
drop-zeros (suc n) zero = let e : 0 - suc n ≡ 0 = omega arith in ap zeros (sym e)
drop-zeros (suc n) (suc m) = let e : suc m - suc n ≡ m - n = omega arith in drop-zeros n m ∙ ap zeros (sym e)

-- zeros stand farther behind too
behind-more : (bytes : List ℕ) (len k room : ℕ) → drop len bytes ≡ replicate (room - len) 0 → drop (len + k) bytes ≡ replicate (room - (len + k)) 0
behind-more bytes len k room h =
    let e : room - len - k ≡ room - (len + k) = omega arith in
    sym (drop-drop k len bytes) ∙ ap (drop k) h ∙ drop-zeros k (room - len) ∙ ap zeros e

-- a byte stored behind the others
pub put_kept : (bytes : List ℕ) (len b : ℕ) → length bytes ≡ 32768 → len < 32768 → drop len bytes ≡ replicate (32768 - len) 0 → Packed (record { bytes = set bytes len b; len = len + 1 })
put_kept bytes len b n h z =
    packed (set bytes len b) (len + 1) (length-set bytes len b ∙ n) (omega arith) (drop-set-lt (len + 1) bytes len b (omega arith) ∙ behind-more bytes len 1 32768 z)

-- the last bytes made zeros
pub cut_kept : (bytes zeroed : List ℕ) (len n : ℕ) → length bytes ≡ 32768 → n ≤ 32768 → len ≤ n → drop n bytes ≡ zeros (32768 - n) → zeroed ≡ zeros (n - len) → Packed (record { bytes = put_mid len (n - len) bytes zeroed; len = len })
cut_kept bytes zeroed len n b l h z m =
    let k : length zeroed ≡ n - len = ap length m ∙ length-replicate (n - len) 0 in
    let room : n - len ≤ length (drop len bytes) = omega (arith, length-drop len bytes) in
    let at : length (take len bytes) ≡ len = length-take-le len bytes (omega (arith, b, h, l)) in
    let e : len + (n - len) ≡ n = omega arith in
    let f : n - len + (32768 - n) ≡ 32768 - len = omega arith in
    let rest : List ℕ = zeroed ++ drop (n - len) (drop len bytes) in
    packed (put_mid len (n - len) bytes zeroed) len (same_len_mid len (n - len) bytes zeroed (k ∙ sym (length-take-le (n - len) (drop len bytes) room)) ∙ b) (omega arith)
    (ap (λ (j : ℕ). drop j (take len bytes ++ rest)) (sym at)
    ∙ drop-append_seam (take len bytes) rest
    ∙ ap (λ (x : List ℕ). x ++ drop (n - len) (drop len bytes)) m
    ∙ ap (λ (x : List ℕ). zeros (n - len) ++ x) (drop-drop (n - len) len bytes ∙ ap (λ (j : ℕ). drop j bytes) e ∙ z)
    ∙ replicate-append-replicate (n - len) (32768 - n) 0
    ∙ ap zeros f)
