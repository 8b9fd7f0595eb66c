-- Zeros behind the bytes of a line.
use Prim.Native.Nat.{ℕ, zero, suc, ◌+◌, ◌-◌, ◌≤◌, ◌<◌}
use native.Mathlib.Omega.{arith}
use mathlib.Core.Bool.{Bool}
use mathlib.Core.List.{List}
use mathlib.Core.Path.{◌≡◌, refl, sym, ap, ◌∙◌}
use lib.ListN.{length, set, take, drop, replicate, length-set, take-append-drop}
use lib.Seq.{drop-drop, drop-set-lt, length-take-le}
use Rattle.linewise.specs.declared.Line.TheInside.{Inside}
use Rattle.linewise.specs.Kept.{kept, kept_in, Packed}

-- the bytes and the mark alone give the fields back
pub packed : (bytes : List ℕ) (len : ℕ) (ended : Bool) → length bytes ≡ 501 → len ≤ 501 → drop len bytes ≡ replicate (501 - len) 0 → Packed (record { bytes = bytes; len = len; ended = ended })
packed bytes len ended n l h =
    record {
      len = l;
      behind = h;
      whole = rw (length-take-le len bytes (omega (arith, l, n)), ← h, take-append-drop len bytes) refl;
    }

abbrev zeros : ℕ → List ℕ
zeros n = replicate n 0

drop-zeros : (n m : ℕ) → drop n (zeros m) ≡ zeros (m - n)
drop-zeros zero m = let e : m - 0 ≡ m = omega arith in ap zeros (sym e)
drop-zeros (suc n) zero = let e : 0 - suc n ≡ 0 = omega arith in ap zeros (sym e)
drop-zeros (suc n) (suc m) = let e : suc m - suc n ≡ m - n = omega arith in drop-zeros n m ∙ ap zeros (sym e)

-- zeros stand farther behind too
behind-more : (bytes : List ℕ) (len k room : ℕ) → drop len bytes ≡ replicate (room - len) 0 → drop (len + k) bytes ≡ replicate (room - (len + k)) 0
behind-more bytes len k room h =
    let e : room - len - k ≡ room - (len + k) = omega arith in
    sym (drop-drop k len bytes) ∙ ap (drop k) h ∙ drop-zeros k (room - len) ∙ ap zeros e

-- a byte stored behind the others
pub push_kept : (bytes : List ℕ) (len b : ℕ) (ended : Bool) → length bytes ≡ 501 → len < 501 → drop len bytes ≡ replicate (501 - len) 0 → Packed (record { bytes = set bytes len b; len = len + 1; ended = ended })
push_kept bytes len b ended n h z =
    packed (set bytes len b) (len + 1) ended (length-set bytes len b ∙ n) (omega arith) (drop-set-lt (len + 1) bytes len b (omega arith) ∙ behind-more bytes len 1 501 z)
