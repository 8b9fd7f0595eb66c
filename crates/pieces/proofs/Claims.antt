-- The claims of specs/Claims.antt.
use Prim.Native.Nat.{ℕ, zero, suc, ◌+◌, ◌*◌, ◌/◌, ◌%◌, ◌≤◌, ◌<◌}
use native.Mathlib.Omega.{arith}
use mathlib.Core.Path.{◌≡◌, refl, sym, ap, ◌∙◌}
use mathlib.Core.List.{List, [], ◌∷◌, ◌++◌, append-nil}
use lib.Dec.{eqb}
use lib.ListN.{length, take, drop, length-drop, take-append-drop}
use lib.Seq.{take-add, length-take-le, take_all, get_or-drop}
use borrow.Author.Tests.{lt-ltb, lt-leb}
use Rattle.records.specs.Records.{record_at, number_of}
use Rattle.pieces.specs.declared.Part.{Part}
use Rattle.pieces.specs.Pieces.{start, shifted, part_after, wholes, wholes_in, Bytes, IsRecord}
use Rattle.pieces.specs.Claims.{CutAnywhere, OfALog}
use Rattle.pieces.proofs.Cuts.{part-append, wholes-append, ten_bytes}

pub cut-anywhere : CutAnywhere
cut-anywhere p a b = (part-append p a b, wholes-append p a b)

-- fewer than ten bytes more make no record whole
few-have : (p : Part) (l : List ℕ) → p.have + length l < 10 → (part_after p l).have ≡ p.have + length l
unfolding part_after shifted
few-have p [] h = omega arith
few-have p (b ∷ l) h =
    let t = lt-ltb p.have 9 (omega arith) in
    let e : (shifted p b).have ≡ p.have + 1 = rw t in
    few-have (shifted p b) l (omega arith) ∙ omega arith

few-wholes : (p : Part) (l : List ℕ) → p.have + length l < 10 → wholes p l ≡ []
unfolding wholes shifted
few-wholes p [] h = refl
few-wholes p (b ∷ l) h =
    let t = lt-ltb p.have 9 (omega arith) in
    let e : (shifted p b).have ≡ p.have + 1 = rw t in
    rw (lt-leb 9 p.have (omega arith)) (few-wholes (shifted p b) l (omega arith))

nothing-part : (p : Part) → part_after p [] ≡ p
unfolding part_after
nothing-part p = refl

nothing-wholes : (p : Part) → wholes p [] ≡ []
unfolding wholes
nothing-wholes p = refl

pub bytes_take : (n : ℕ) (l : List ℕ) → Bytes l → Bytes (take n l)
bytes_take zero l h k = omega arith
bytes_take (suc n) [] h k = omega arith
bytes_take (suc n) (x ∷ l) h zero = h 0
bytes_take (suc n) (x ∷ l) h (suc k) = bytes_take n l (λ i. h (suc i)) k

bytes_drop : (n : ℕ) (l : List ℕ) → Bytes l → Bytes (drop n l)
bytes_drop n l h k = rw (get_or-drop n l k 0) (h (n + k))

-- ten bytes after whole records
whole-record : (r : List ℕ) → length r ≡ 10 → Bytes r → IsRecord r (record { have = 0; head = number_of (take 8 r); body = number_of (drop 8 r) })
whole-record r l k = ten_bytes r l k _ _ refl (ap number_of (sym (take_all 2 (drop 8 r) (simp length-drop (omega arith)))))

record-bytes : (log : List ℕ) (n : ℕ) → 10 * n + 10 ≤ length log → length (record_at log n) ≡ 10
unfolding record_at
record-bytes log n h = length-take-le 10 (drop (10 * n) log) (simp length-drop (omega arith))

record-bytes-are : (log : List ℕ) (n : ℕ) → Bytes log → Bytes (record_at log n)
unfolding record_at
record-bytes-are log n k = bytes_take 10 (drop (10 * n) log) (bytes_drop (10 * n) log k)

take_more : (log : List ℕ) (n : ℕ) → take (10 * suc n) log ≡ take (10 * n) log ++ record_at log n
unfolding record_at
take_more log n = let e : 10 * suc n ≡ 10 * n + 10 = omega arith in rw e (take-add (10 * n) 10 log)

-- a log's first n records
firsts : (log : List ℕ) → Bytes log → (n : ℕ) → 10 * n ≤ length log → (wholes start (take (10 * n) log) ≡ wholes_in log n) × ((part_after start (take (10 * n) log)).have ≡ 0)
unfolding wholes_in
firsts log k zero h = (nothing-wholes start, ap (λ (q : Part). q.have) (nothing-part start))
firsts log k (suc n) h =
    let i = firsts log k n (omega arith) in
    let e = record-bytes log n (omega arith) in
    let b = record-bytes-are log n k in
    let r = whole-record (record_at log n) e b in
    rw (take_more log n, wholes-append start (take (10 * n) log) (record_at log n), part-append start (take (10 * n) log) (record_at log n))
    (rw (i.0, r.wholes (part_after start (take (10 * n) log)) i.1) refl, ap (λ (q : Part). q.have) (r.part (part_after start (take (10 * n) log)) i.1))

pub of-a-log : OfALog
of-a-log log k =
    let q : ℕ = length log / 10 in
    let i = firsts log k q (omega arith) in
    let p : Part = part_after start (take (10 * q) log) in
    let l : length (drop (10 * q) log) ≡ length log % 10 = simp length-drop (omega arith) in
    let few : p.have + length (drop (10 * q) log) < 10 = omega (arith, i.1) in
    let s : log ≡ take (10 * q) log ++ drop (10 * q) log = sym (take-append-drop (10 * q) log) in
    let w : wholes start log ≡ wholes_in log q = ap (wholes start) s ∙ wholes-append start (take (10 * q) log) (drop (10 * q) log) ∙ rw (i.0, few-wholes p (drop (10 * q) log) few) (append-nil (wholes_in log q)) in
    let h : (part_after start log).have ≡ length log % 10 = ap (λ (x : List ℕ). (part_after start x).have) s ∙ ap (λ (x : Part). x.have) (part-append start (take (10 * q) log) (drop (10 * q) log)) ∙ few-have p (drop (10 * q) log) few ∙ omega (arith, i.1) in
    (w, ap (λ (n : ℕ). eqb n 0) h)
