-- Laws of the cuts: one byte, ten bytes, and any bytes after others.
use Prim.Native.Nat.{ℕ, zero, suc, ◌+◌, ◌*◌, ◌/◌, ◌%◌, ◌≤◌, ◌<◌, ◌^◌}
use native.Mathlib.Omega.{arith}
use native.Mathlib.Decide.{dec_le}
use mathlib.Core.Path.{◌≡◌, refl, ap, ◌∙◌}
use mathlib.Core.Bool.{cond, Bool, true, false}
use mathlib.Core.List.{List, [], ◌∷◌, ◌++◌}
use lib.Dec.{eqb, leb, ltb}
use lib.ListN.{length, get_or, take, drop}
use lib.Seq.{drop-cons, drop-length}
use borrow.Author.Tests.{eqb-true, ne_eqb, lt-ltb, le-ltb, lt-leb, le-leb}
use Rattle.records.specs.Records.{number_of}
use Rattle.records.proofs.Bytes.{bytes_from, two_bytes, eight-bytes}
use Rattle.pieces.specs.declared.Part.{Part}
use Rattle.pieces.specs.declared.Whole.{Whole}
use Rattle.pieces.specs.declared.Records.{Records}
use Rattle.pieces.specs.Pieces.{between, inside, shifted, part_after, ahead, wholes, Bytes, IsRecord, TakesOne, TakesRest}
use Rattle.std.specs.Prelude.{Some}
use Rattle.std.specs.Iterator.{MakesProgress, item_count}

-- ---- a cut anywhere

pub part-append : (p : Part) (a b : List ℕ) → part_after p (a ++ b) ≡ part_after (part_after p a) b
unfolding part_after
part-append p [] b = refl
part-append p (x ∷ a) b = part-append (shifted p x) a b

ahead-append : (t : Bool) (w : Whole) (ws vs : List Whole) → ahead t w (ws ++ vs) ≡ ahead t w ws ++ vs
ahead-append true w ws vs = refl
ahead-append false w ws vs = refl

pub wholes-append : (p : Part) (a b : List ℕ) → wholes p (a ++ b) ≡ wholes p a ++ wholes (part_after p a) b
unfolding wholes part_after
wholes-append p [] b = refl
wholes-append p (x ∷ a) b =
    ap (ahead (leb 9 p.have) (inside (shifted p x))) (wholes-append (shifted p x) a b)
    ∙ ahead-append (leb 9 p.have) (inside (shifted p x)) (wholes (shifted p x) a) (wholes (part_after (shifted p x) a) b)

-- ---- ten bytes: what was kept moves out

abbrev up : ℕ → ℕ → ℕ
up h b = h % 2 ^ 56 * 256 + b

up-1 : (h b : ℕ) → b < 256 → up h b % 2 ^ 8 ≡ b
up-1 h b q = omega arith

up-2 : (h x b : ℕ) → h % 2 ^ 8 ≡ x → b < 256 → up h b % 2 ^ 16 ≡ x * 256 + b
up-2 h x b e q = omega arith

up-3 : (h x b : ℕ) → h % 2 ^ 16 ≡ x → b < 256 → up h b % 2 ^ 24 ≡ x * 256 + b
up-3 h x b e q = omega arith

up-4 : (h x b : ℕ) → h % 2 ^ 24 ≡ x → b < 256 → up h b % 2 ^ 32 ≡ x * 256 + b
up-4 h x b e q = omega arith

up-5 : (h x b : ℕ) → h % 2 ^ 32 ≡ x → b < 256 → up h b % 2 ^ 40 ≡ x * 256 + b
up-5 h x b e q = omega arith

up-6 : (h x b : ℕ) → h % 2 ^ 40 ≡ x → b < 256 → up h b % 2 ^ 48 ≡ x * 256 + b
up-6 h x b e q = omega arith

up-7 : (h x b : ℕ) → h % 2 ^ 48 ≡ x → b < 256 → up h b % 2 ^ 56 ≡ x * 256 + b
up-7 h x b e q = omega arith

up-8 : (h x b : ℕ) → h % 2 ^ 56 ≡ x → up h b ≡ x * 256 + b
up-8 h x b e = ap (λ (y : ℕ). y * 256 + b) e

eight-sum : (b0 b1 b2 b3 b4 b5 b6 b7 : ℕ) → ((((((b0 * 256 + b1) * 256 + b2) * 256 + b3) * 256 + b4) * 256 + b5) * 256 + b6) * 256 + b7
    ≡ b0 * 0x100_0000_0000_0000 + b1 * 0x1_0000_0000_0000 + b2 * 0x100_0000_0000 + b3 * 0x1_0000_0000 + b4 * 0x100_0000 + b5 * 0x1_0000 + b6 * 0x100 + b7
eight-sum b0 b1 b2 b3 b4 b5 b6 b7 = omega arith

div-part : (a b : ℕ) → b < 256 → (a * 256 + b) / 256 ≡ a
div-part a b h = omega arith

mod-part : (a b : ℕ) → b < 256 → (a * 256 + b) % 256 ≡ b
mod-part a b h = omega arith

module _ (h b0 b1 b2 b3 b4 b5 b6 b7 : ℕ) (q0 : b0 < 256) (q1 : b1 < 256) (q2 : b2 < 256) (q3 : b3 < 256) (q4 : b4 < 256) (q5 : b5 < 256) (q6 : b6 < 256) where
  eight-up : up (up (up (up (up (up (up (up h b0) b1) b2) b3) b4) b5) b6) b7
      ≡ b0 * 0x100_0000_0000_0000 + b1 * 0x1_0000_0000_0000 + b2 * 0x100_0000_0000 + b3 * 0x1_0000_0000 + b4 * 0x100_0000 + b5 * 0x1_0000 + b6 * 0x100 + b7
  eight-up =
      up-8 _ _ b7 (up-7 _ _ b6 (up-6 _ _ b5 (up-5 _ _ b4 (up-4 _ _ b3 (up-3 _ _ b2 (up-2 _ _ b1 (up-1 h b0 q0) q1) q2) q3) q4) q5) q6)
      ∙ eight-sum b0 b1 b2 b3 b4 b5 b6 b7

-- the record of ten bytes
abbrev tenth : (b0 b1 b2 b3 b4 b5 b6 b7 b8 b9 : ℕ) → Part
tenth b0 b1 b2 b3 b4 b5 b6 b7 b8 b9 = record {
  have = 0;
  head = b0 * 0x100_0000_0000_0000 + b1 * 0x1_0000_0000_0000 + b2 * 0x100_0000_0000 + b3 * 0x1_0000_0000 + b4 * 0x100_0000 + b5 * 0x1_0000 + b6 * 0x100 + b7;
  body = b8 * 256 + b9;
}

module _ (h body b0 b1 b2 b3 b4 b5 b6 b7 b8 b9 : ℕ) (q0 : b0 < 256) (q1 : b1 < 256) (q2 : b2 < 256) (q3 : b3 < 256) (q4 : b4 < 256) (q5 : b5 < 256) (q6 : b6 < 256) (q7 : b7 < 256) (q8 : b8 < 256) where
  ten-shifted : shifted (shifted (shifted (shifted (shifted (shifted (shifted (shifted (shifted (shifted (record { have = 0; head = h; body = body }) b0) b1) b2) b3) b4) b5) b6) b7) b8) b9
      ≡ tenth b0 b1 b2 b3 b4 b5 b6 b7 b8 b9
  unfolding shifted
  ten-shifted = simp (div-part, mod-part) (ap (λ (x : ℕ). record { have = 0; head = x; body = b8 * 256 + b9 }) (eight-up (up (up h (body / 256)) (body % 256)) b0 b1 b2 b3 b4 b5 b6 b7 q0 q1 q2 q3 q4 q5 q6))

  ten-part : part_after (record { have = 0; head = h; body = body }) (b0 ∷ b1 ∷ b2 ∷ b3 ∷ b4 ∷ b5 ∷ b6 ∷ b7 ∷ b8 ∷ b9 ∷ []) ≡ tenth b0 b1 b2 b3 b4 b5 b6 b7 b8 b9
  unfolding part_after
  ten-part = ten-shifted

  ten-wholes : wholes (record { have = 0; head = h; body = body }) (b0 ∷ b1 ∷ b2 ∷ b3 ∷ b4 ∷ b5 ∷ b6 ∷ b7 ∷ b8 ∷ b9 ∷ []) ≡ inside (tenth b0 b1 b2 b3 b4 b5 b6 b7 b8 b9) ∷ []
  unfolding wholes shifted
  ten-wholes = ap (λ (q : Part). inside q ∷ []) ten-shifted

-- the bytes from a place on, n of them one by one
drop-bytes : (n at : ℕ) (l : List ℕ) → at + n ≡ length l → drop at l ≡ bytes_from n at l
drop-bytes zero at l h = let e : at ≡ length l = omega arith in rw e (drop-length l)
drop-bytes (suc n) at l h = drop-cons l at 0 (omega arith) ∙ ap (λ (t : List ℕ). get_or l at 0 ∷ t) (drop-bytes n (suc at) l (omega arith))

-- a part at the end of a record
ended : (p : Part) → p.have ≡ 0 → p ≡ record { have = 0; head = p.head; body = p.body }
ended p e = ap (λ (n : ℕ). record { have = n; head = p.head; body = p.body }) e

-- ten bytes at once
module _ (r : List ℕ) (l : length r ≡ 10) (k : Bytes r) (head body : ℕ) (f : head ≡ number_of (take 8 r)) (g : body ≡ number_of (take 2 (drop 8 r))) where
  ten-is : tenth (get_or r 0 0) (get_or r 1 0) (get_or r 2 0) (get_or r 3 0) (get_or r 4 0) (get_or r 5 0) (get_or r 6 0) (get_or r 7 0) (get_or r 8 0) (get_or r 9 0) ≡ record { have = 0; head = head; body = body }
  ten-is = rw (f, g, eight-bytes r 0 (omega arith), two_bytes r 8 (omega arith)) refl

  pub ten_bytes : IsRecord r (record { have = 0; head = head; body = body })
  ten_bytes =
      let all = drop-bytes 10 0 r (omega arith) in
      record {
        wholes = λ p e. rw (all, ended p e) (ten-wholes p.head p.body _ _ _ _ _ _ _ _ _ _ (k 0) (k 1) (k 2) (k 3) (k 4) (k 5) (k 6) (k 7) (k 8) ∙ ap (λ (q : Part). inside q ∷ []) ten-is);
        part = λ p e. rw (all, ended p e) (ten-part p.head p.body _ _ _ _ _ _ _ _ _ _ (k 0) (k 1) (k 2) (k 3) (k 4) (k 5) (k 6) (k 7) (k 8) ∙ ten-is);
      }

-- ---- a call for the next record

-- what is left of the piece gives the same records and leaves the same part
pub record SameLeft (r t : Records) : Type 0 where
  pub wholes : wholes r.part r.rest.now ≡ wholes t.part t.rest.now
  pub part : part_after r.part r.rest.now ≡ part_after t.part t.rest.now

-- a record that is taken leaves one fewer
pub one-fewer : {r t : Records} {w : Whole} → TakesOne r w t → MakesProgress (λ s. Unit {0}) (item_count (λ s. wholes s.part s.rest.now)) r (Some w) t
one-fewer one =
    let fewer = ap length one.wholes in
    record { on = λ f. (tt, f, omega arith); keeps = tt; rests = λ f. tt }

-- ten bytes and those after them
pub takes-ten : (r t : Records) {w : Whole} (ten : List ℕ) → IsRecord ten t.part → between r.part ≡ true → r.rest.now ≡ ten ++ t.rest.now → w ≡ inside t.part → TakesOne r w t
takes-ten r t ten is_record none all same =
    let have = eqb-true r.part.have 0 none in
    record {
      wholes = rw (all, wholes-append, is_record.wholes r.part have, is_record.part r.part have, same);
      part = rw (all, part-append, is_record.part r.part have);
    }

-- one byte ends a record where none is begun after it
ends : (p : Part) (b : ℕ) → leb 9 p.have ≡ between (shifted p b)
unfolding shifted
ends p b = go (dec_le 9 p.have)
  where
    go : Dec (9 ≤ p.have) → leb 9 p.have ≡ eqb (cond (ltb p.have 9) (p.have + 1) 0) 0
    go (yes h) = rw (le-leb 9 p.have h, le-ltb p.have 9 h)
    go (no h) = rw (lt-leb 9 p.have (omega arith), lt-ltb p.have 9 (omega arith), ne_eqb (p.have + 1) 0 (λ q. omega arith))

-- what one byte more leaves
module _ (r s t : Records) (same : SameLeft r s) (b : ℕ) (all : s.rest.now ≡ b ∷ t.rest.now) (after : t.part ≡ shifted s.part b) where
  wholes-left : wholes r.part r.rest.now ≡ ahead (between t.part) (inside t.part) (wholes t.part t.rest.now)
  unfolding wholes
  wholes-left = same.wholes ∙ rw (all, after, ends s.part b)

  part-left : part_after r.part r.rest.now ≡ part_after t.part t.rest.now
  unfolding part_after
  part-left = same.part ∙ rw (all, after)

  pub takes-byte : {w : Whole} → between t.part ≡ true → w ≡ inside t.part → TakesOne r w t
  takes-byte ended is = record { wholes = wholes-left ∙ rw (ended, is); part = part-left }

  pub passes-byte : between t.part ≡ false → SameLeft r t
  passes-byte begun = record { wholes = wholes-left ∙ rw begun; part = part-left }

nothing-left : (l : List ℕ) → length l ≡ 0 → l ≡ []
nothing-left [] e = refl
nothing-left (b ∷ l) e = absurd (omega arith)

pub takes-rest : (r t : Records) → SameLeft r t → length t.rest.now ≡ 0 → TakesRest r t
unfolding wholes part_after
takes-rest r t same none =
    let rest = nothing-left t.rest.now none in
    record { wholes = same.wholes ∙ rw rest; part = same.part ∙ rw rest; rest = rest }

-- ---- how many records: what is begun counts as nine bytes at most

wholes-kept : (p : Part) (l : List ℕ) (k : ℕ) → (p.have < 9 → p.have ≤ k) → (9 ≤ p.have → 9 ≤ k) → 10 * length (wholes p l) ≤ k + length l
unfolding wholes shifted
wholes-kept p [] k f g = omega arith
wholes-kept p (b ∷ l) k f g = go (dec_le 9 p.have) (wholes-kept (shifted p b) l)
  where
    go : Dec (9 ≤ p.have) → ((k : ℕ) → ((shifted p b).have < 9 → (shifted p b).have ≤ k) → (9 ≤ (shifted p b).have → 9 ≤ k) → 10 * length (wholes (shifted p b) l) ≤ k + length l)
        → 10 * length (ahead (leb 9 p.have) (inside (shifted p b)) (wholes (shifted p b) l)) ≤ k + suc (length l)
    go (yes h) i =
        let e : (shifted p b).have ≡ 0 = rw (le-ltb p.have 9 h) in
        let j = i 0 (λ q. omega arith) (λ q. omega arith) in
        rw (le-leb 9 p.have h) (omega (arith, g h))
    go (no h) i =
        let e : (shifted p b).have ≡ p.have + 1 = rw (lt-ltb p.have 9 (omega arith)) in
        let m = f (omega arith) in
        let j = i (k + 1) (λ q. omega arith) (λ q. omega arith) in
        rw (lt-leb 9 p.have (omega arith)) (omega arith)

-- at most one for each ten bytes, and one more
pub wholes-length : (p : Part) (l : List ℕ) → length (wholes p l) ≤ length l / 10 + 1
wholes-length p l = let h = wholes-kept p l 9 (λ q. omega arith) (λ q. omega arith) in omega arith
