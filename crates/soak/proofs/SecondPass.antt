-- The second pass, one chunk more.
use Prim.Native.Nat.{ℕ, ◌+◌, ◌*◌, ◌/◌, ◌≤◌}
use native.Mathlib.Omega.{arith}
use mathlib.Core.Path.{◌≡◌, refl, sym, ap, ◌∙◌}
use mathlib.Core.Bool.{true, false}
use mathlib.Core.List.{List, [], ◌∷◌, ◌++◌}
use lib.ListN.{length, take, drop, length-append}
use lib.Seq.{take_at}
use borrow.Author.Tests.{le-ltb}
use Rattle.std.specs.Prelude.{Result, Ok, IsOk}
use Rattle.pieces.specs.Pieces.{joined, part_after, wholes}
use Rattle.verdict.specs.declared.Check.{Check}
use Rattle.verdict.specs.Check.{pins_in}
use Rattle.verdict.specs.Changes.{changes}
use Rattle.dump.specs.declared.DumpError.{DumpError}
use Rattle.dump.specs.declared.writer.Writer.{Writer}
use Rattle.dump.specs.Dump.{last_cycle}
use Rattle.dump.specs.Pieces.{header_of, begun, written_by, after}
use Rattle.dump.specs.Answers.{Outcome, Answers, lines_short, header_outcome, lines_outcome}
use Rattle.dump.specs.Answers.{wrote as wrote_into}
use Rattle.dump.specs.Claims.{written_all}
use Rattle.dump.proofs.Claims.{written_all-joined, written-append, after-append}
use Rattle.soak.specs.declared.input.Input.{Input}
use Rattle.soak.specs.declared.output.Output.{Output}
use Rattle.soak.specs.Input.{missing, opened, was_opened, is_open}
use Rattle.soak.specs.Output.{wrote}
use Rattle.soak.specs.Passes.{Chunks, WritesChunks, Writes}
use Rattle.soak.proofs.Prefixes.{Prefix}
use Rattle.soak.proofs.Chunks.{ReadsChunk, ReadsNone, joined-more, chunks-none, chunks-more, chunks-end}

-- ---- what the dump put into its area

pub record Put (answer : Result ℕ DumpError) (area bytes : List ℕ) : Type 0 where
  pub count : answer ≡ Ok (length bytes)
  pub fits : length bytes ≤ length area
  pub same : take (length bytes) area ≡ bytes

-- it is an `Ok`, and that many bytes of the area are it
module _ {a : Result ℕ DumpError} {area bytes : List ℕ} (p : Put a area bytes) where
  pub put_ok : IsOk a
  put_ok = rw p.count

  pub put_prefix : {n : ℕ} → a ≡ Ok n → Prefix area n bytes
  put_prefix {n} e = let same : n ≡ length bytes = cc in record { fits = omega arith; same = rw same p.same }

put : (x : Outcome) (bytes old new : List ℕ) (a : Result ℕ DumpError) → x ≡ wrote_into bytes old → length new ≡ length old → Answers x a new → Put a new bytes
put x bytes old new a e l h =
    let area : new ≡ bytes ++ drop (length bytes) old = h.area ∙ rw e in
    let k = ap length area ∙ length-append bytes (drop (length bytes) old) in
    record { count = h.answer ∙ rw e; fits = omega arith; same = rw area (take_at bytes (drop (length bytes) old) (length bytes) refl) }

pub header-put : (c : Check) (old new : List ℕ) (a : Result ℕ DumpError) → length old ≡ 6954 → length new ≡ length old → Answers (header_outcome c old) a new → Put a new (header_of (pins_in c))
unfolding header_outcome
header-put c old new a l k h = put (header_outcome c old) (header_of (pins_in c)) old new a (rw (le-ltb (length old) 6954 (omega arith))) k h

roomy : (chunk old : List ℕ) → length chunk ≤ 640 → length old ≡ 2080 → lines_short (length old) chunk ≡ false
roomy chunk old m l = le-ltb (length old / 32) (length chunk / 10 + 1) (omega arith)

pub lines-put : (w : Writer) (chunk old new : List ℕ) (a : Result ℕ DumpError) → length chunk ≤ 640 → length old ≡ 2080 → length new ≡ length old → Answers (lines_outcome w chunk old) a new → Put a new (written_by w chunk)
unfolding lines_outcome
lines-put w chunk old new a m l k h = put (lines_outcome w chunk old) (written_by w chunk) old new a (rw (roomy chunk old m l)) k h

-- ---- one chunk more

-- the lines of the chunks so far; a chunk that is not empty has at most 2,080 bytes of them
pub record WritesSoFar (to : Output) (i : Input) (w : Writer) (o : Output) : Type 0 where
  pub opened : is_open i ≡ true
  pub chunks : List (List ℕ)
  pub read : Chunks i chunks
  pub writer : w ≡ after begun (joined chunks)
  pub output : o ≡ wrote to (written_all begun chunks)
  pub most : length (written_all begun chunks) ≤ 2080 * i.bytes

lines_more : (chunks : List (List ℕ)) (chunk : List ℕ) → written_all begun (chunks ++ chunk ∷ []) ≡ written_all begun chunks ++ written_by (after begun (joined chunks)) chunk
lines_more chunks chunk =
    written_all-joined begun (chunks ++ chunk ∷ []) ∙ ap (written_by begun) (joined-more chunks chunk) ∙ written-append begun (joined chunks) chunk
    ∙ ap (λ (l : List ℕ). l ++ written_by (after begun (joined chunks)) chunk) (sym (written_all-joined begun chunks))

writer-more : (chunks : List (List ℕ)) (chunk : List ℕ) → after (after begun (joined chunks)) chunk ≡ after begun (joined (chunks ++ chunk ∷ []))
writer-more chunks chunk = sym (ap (after begun) (joined-more chunks chunk) ∙ after-append begun (joined chunks) chunk)

wrote-more : (o : Output) (a b : List ℕ) → wrote (wrote o a) b ≡ wrote o (a ++ b)
wrote-more o a b = let e : o.bytes + length a + length b ≡ o.bytes + length (a ++ b) = simp length-append (omega arith) in rw e

nothing-after : begun ≡ after begun []
unfolding after part_after wholes changes last_cycle
nothing-after = refl

pub wrote_none : (o : Output) → o ≡ wrote o []
wrote_none o = let e : o.bytes + 0 ≡ o.bytes = omega arith in rw e

pub writes-none : (i : Input) (o : Output) (w : Writer) → i ≡ opened → w ≡ begun → WritesSoFar o i w o
unfolding written_all joined
writes-none i o w s e = record {
  opened = rw s;
  chunks = [];
  read = chunks-none i (rw s);
  writer = e ∙ nothing-after;
  output = wrote_none o;
  most = omega arith;
}

pub writes-more : (to : Output) (i r : Input) (w v : Writer) (o p : Output) (area : List ℕ) (n : ℕ)
    → length area ≡ 640 → ReadsChunk i area n r → v ≡ after w (take n area) → p ≡ wrote o (written_by w (take n area)) → length (written_by w (take n area)) ≤ 2080 → WritesSoFar to i w o → WritesSoFar to r v p
writes-more to i r w v o p area n l h a b m z =
    let chunk = take n area in
    let new : length (written_by (after begun (joined z.chunks)) chunk) ≤ 2080 = rw z.writer at m in
    record {
      opened = ap was_opened h.state ∙ z.opened;
      chunks = z.chunks ++ chunk ∷ [];
      read = chunks-more i r area n z.chunks l h z.read;
      writer = a ∙ rw z.writer (writer-more z.chunks chunk);
      output = b ∙ rw (z.output, z.writer, lines_more z.chunks chunk) (wrote-more to (written_all begun z.chunks) (written_by (after begun (joined z.chunks)) chunk));
      most = rw (lines_more z.chunks chunk) (simp length-append (omega (arith, z.most, h.count, h.some)));
    }

pub writes-end : (to : Output) (i r : Input) (w : Writer) (o : Output) → ReadsNone i r → WritesSoFar to i w o → WritesChunks to r o
writes-end to i r w o h z = record { opened = h.opened ∙ z.opened; chunks = z.chunks; pass = chunks-end i r z.chunks h z.read; output = z.output }

-- ---- the file opened again

pub not_opened : (c : Check) (o : Output) (i : Input) → i ≡ missing → Writes c o i o
not_opened c o i s = record {
  chunks = [];
  pass = record { read = chunks-none i (rw s); ends = rw s };
  output = rw s (wrote_none o);
}
