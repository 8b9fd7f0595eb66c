-- One chunk more, of either pass.
use Prim.Native.Nat.{ℕ, zero, suc, ◌+◌, ◌≤◌}
use native.Mathlib.Omega.{arith}
use mathlib.Core.Path.{◌≡◌, refl, sym, ap, ◌∙◌}
use mathlib.Core.Bool.{Bool, true, false, cond, not, ◌&&◌}
use mathlib.Core.List.{List, [], ◌∷◌, ◌++◌, append_assoc, append-nil}
use lib.Dec.{eqb, leb}
use lib.ListN.{length, take, length-append}
use lib.Seq.{length-take-le}
use borrow.Author.Tests.{leb-true, eqb-false}
use Rattle.std.specs.Prelude.{Option, None, Some, unwrap_or}
use Rattle.pieces.specs.Pieces.{Bytes, joined}
use Rattle.pieces.proofs.Claims.{bytes_take}
use Rattle.verdict.specs.Refusal.{longest}
use Rattle.soak.specs.declared.input.State.{State}
use Rattle.soak.specs.declared.input.State.TheVariants as state
use Rattle.soak.specs.declared.input.Input.{Input}
use Rattle.soak.specs.Input.{after_read, chunk_of, was_opened, has_failed, has_ended, is_open, failed, ended, more, Reads}
use Rattle.soak.specs.Passes.{Chunks, Pass}

-- ---- chunks

pub joined-more : (chunks : List (List ℕ)) (chunk : List ℕ) → joined (chunks ++ chunk ∷ []) ≡ joined chunks ++ chunk
unfolding joined
joined-more [] chunk = append-nil chunk
joined-more (c ∷ chunks) chunk = ap (λ (l : List ℕ). c ++ l) (joined-more chunks chunk) ∙ sym (append_assoc c (joined chunks) chunk)

bytes-append : (a b : List ℕ) → Bytes a → Bytes b → Bytes (a ++ b)
bytes-append [] b h k i = k i
bytes-append (x ∷ a) b h k zero = h 0
bytes-append (x ∷ a) b h k (suc i) = bytes-append a b (λ j. h (suc j)) k i

-- ---- the next chunk

-- a chunk was read
pub record ReadsChunk (i : Input) (area : List ℕ) (n : ℕ) (r : Input) : Type 0 where
  pub within : i.bytes ≤ longest
  pub some : 1 ≤ n
  pub fits : n ≤ length area
  pub state : r.state ≡ i.state
  pub count : r.bytes ≡ i.bytes + n
  pub bytes : Bytes area

-- no chunk was read, and no more is
pub record ReadsNone (i r : Input) : Type 0 where
  pub opened : is_open r ≡ is_open i
  pub count : r.bytes ≡ i.bytes
  pub ends : more r ≡ false

right : (a b : Bool) → a && b ≡ true → b ≡ true
right true b e = e
right false b e = cc

was-open : (s : State) (b : Bool) → not (has_failed s) && not (has_ended s) && b ≡ true → was_opened s ≡ true
was-open state.Missing b e = cc
was-open state.Open b e = refl
was-open state.Ended b e = cc
was-open state.Failed b e = cc

module _ (i r : Input) (area : List ℕ) where
  pub reads-chunk : (n : ℕ) → Reads i area (Some n) r → ReadsChunk i area n r
  reads-chunk n x = go (more i) x.answer refl x.fits x.input x.chunk
    where
      some : (k : ℕ) (z : Bool) → eqb k 0 ≡ z → more i ≡ true → k ≤ length area → r ≡ cond z (record i { state = state.Ended }) (record i { bytes = i.bytes + k }) → Some n ≡ cond z None (Some k) → ReadsChunk i area n r
      some k true z m f e c = cc
      some k false z m f e c =
          let same : n ≡ k = cc in
          let positive = eqb-false k 0 z in
          record {
            within = leb-true i.bytes longest (right (not (failed i) && not (ended i)) (leb i.bytes longest) m);
            some = omega arith;
            fits = omega arith;
            state = rw e;
            count = rw (e, same);
            bytes = x.bytes;
          }

      go : (m : Bool) (a : Option ℕ) → more i ≡ m → unwrap_or a 0 ≤ length area → r ≡ cond m (after_read i a) i → Some n ≡ cond m (chunk_of a) None → ReadsChunk i area n r
      go true (Some k) m f e c = some k (eqb k 0) refl m f e c
      go true None m f e c = cc
      go false a m f e c = cc

  pub reads-none : Reads i area None r → ReadsNone i r
  reads-none x = go (more i) x.answer refl x.input x.chunk
    where
      none : (k : ℕ) (z : Bool) → eqb k 0 ≡ z → more i ≡ true → r ≡ cond z (record i { state = state.Ended }) (record i { bytes = i.bytes + k }) → None ≡ cond z None (Some k) → ReadsNone i r
      none k true z m e c = record { opened = rw (e, was-open i.state _ m); count = rw e; ends = rw e }
      none k false z m e c = cc

      go : (m : Bool) (a : Option ℕ) → more i ≡ m → r ≡ cond m (after_read i a) i → None ≡ cond m (chunk_of a) None → ReadsNone i r
      go true (Some k) m e c = none k (eqb k 0) refl m e c
      go true None m e c = record { opened = rw (e, was-open i.state _ m); count = rw e; ends = rw e }
      go false a m e c = record { opened = rw e; count = rw e; ends = rw e m }

-- ---- one chunk more

pub chunks-none : (i : Input) → i.bytes ≡ 0 → Chunks i []
unfolding joined
chunks-none i o = record { count = o; most = omega arith; bytes = λ k. omega arith }

pub chunks-more : (i r : Input) (area : List ℕ) (n : ℕ) (chunks : List (List ℕ)) → length area ≡ 640 → ReadsChunk i area n r → Chunks i chunks → Chunks r (chunks ++ take n area ∷ [])
chunks-more i r area n chunks l h c =
    let chunk = take n area in
    let k : length chunk ≡ n = length-take-le n area h.fits in
    record {
      count = h.count ∙ rw (joined-more chunks chunk) (simp length-append (rw (k, c.count)));
      most = omega arith;
      bytes = rw (joined-more chunks chunk) (bytes-append (joined chunks) chunk c.bytes (bytes_take n area h.bytes));
    }

-- no chunk more
pub chunks-end : (i r : Input) (chunks : List (List ℕ)) → ReadsNone i r → Chunks i chunks → Pass r chunks
chunks-end i r chunks h c = record { read = record { count = h.count ∙ c.count; most = omega arith; bytes = c.bytes }; ends = h.ends }
