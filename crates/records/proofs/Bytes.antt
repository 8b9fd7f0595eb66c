-- Bytes one by one, and the numbers that they make.
use Prim.Native.Nat.{ℕ, zero, suc, ◌+◌, ◌*◌, ◌≤◌}
use native.Mathlib.Omega.{arith}
use native.Mathlib.Numerals.{towards_suc}
use mathlib.Core.Path.{◌≡◌, refl, ap}
use mathlib.Core.List.{List, [], ◌∷◌}
use lib.ListN.{length, get_or, take, drop}
use lib.Seq.{drop-cons}
use Rattle.records.specs.Records.{number_of}

-- n bytes from a place on
abbrev pub bytes_from : ℕ → ℕ → List ℕ → List ℕ
bytes_from zero at l = []
bytes_from (suc n) at l = get_or l at 0 ∷ bytes_from n (suc at) l

pub bytes-from : (n at : ℕ) (l : List ℕ) → at + n ≤ length l → take n (drop at l) ≡ bytes_from n at l
bytes-from zero at l h = refl
bytes-from (suc n) at l h = rw (drop-cons l at 0 (omega arith)) (ap (λ (t : List ℕ). get_or l at 0 ∷ t) (bytes-from n (suc at) l (omega arith)))

pub two_bytes : (l : List ℕ) (at : ℕ) → at + 2 ≤ length l → number_of (take 2 (drop at l)) ≡ get_or l at 0 * 0x100 + get_or l (at + 1) 0
unfolding number_of
two_bytes l at h = rw (bytes-from 2 at l h) (simp towards_suc (omega arith))

pub eight-bytes : (l : List ℕ) (at : ℕ) → at + 8 ≤ length l → number_of (take 8 (drop at l))
    ≡ get_or l at 0 * 0x100_0000_0000_0000
    + get_or l (at + 1) 0 * 0x1_0000_0000_0000
    + get_or l (at + 2) 0 * 0x100_0000_0000
    + get_or l (at + 3) 0 * 0x1_0000_0000
    + get_or l (at + 4) 0 * 0x100_0000
    + get_or l (at + 5) 0 * 0x1_0000
    + get_or l (at + 6) 0 * 0x100
    + get_or l (at + 7) 0
unfolding number_of
eight-bytes l at h = rw (bytes-from 8 at l h) (simp towards_suc (omega arith))
