-- The claim of specs/Claims.antt.
use Prim.Native.Nat.{ℕ, ◌+◌, ◌≤◌, ◌<◌}
use native.Mathlib.Decide.{dec_le}
use native.Mathlib.Omega.{arith}
use mathlib.Core.Path.{◌≡◌, refl, sym, ap, ◌∙◌}
use mathlib.Core.Bool.{Bool, true, false, cond, ◌&&◌, and-false}
use mathlib.Core.List.{List, [], ◌++◌, append-nil}
use lib.ListN.{length, length-append}
use borrow.Author.Tests.{lt-leb, leb-false}
use Rattle.std.specs.Prelude.{Option, None, Some, is_none}
use Rattle.std.specs.Option.{option_map, option_or}
use Rattle.pieces.specs.Pieces.{joined}
use Rattle.verdict.specs.declared.judge.Fault.{Fault}
use Rattle.verdict.specs.declared.judge.Fault.TheVariants as fault
use Rattle.soak.specs.declared.refusal.Refusal.TheVariants as refusal
use Rattle.soak.specs.declared.input.State.{State}
use Rattle.soak.specs.declared.input.State.TheVariants as state
use Rattle.verdict.specs.Changes.{changes_of}
use Rattle.verdict.specs.Refusal.{longest, refusal_of}
use Rattle.verdict.proofs.Claims.{by-pieces}
use Rattle.dump.specs.Dump.{dump_of}
use Rattle.dump.specs.Claims.{passes, read_back}
use Rattle.dump.proofs.Claims.{dump-by-pieces, reads-back}
use Rattle.soak.specs.declared.input.Input.{Input}
use Rattle.soak.specs.declared.Outcome.{Outcome}
use Rattle.soak.specs.Input.{was_opened, has_failed, is_open, ended}
use Rattle.soak.specs.Passes.{Pass, second_refusal}
use Rattle.soak.specs.Files.{refused_first, refused_file, standard_output, Dumps}
use Rattle.soak.specs.Claims.{OfFile, EveryLog}

-- ---- too long a log

too_long : (l : List ℕ) → longest < length l → refusal_of l ≡ Some fault.Malformed
unfolding refusal_of
too_long l h = rw (lt-leb (length l) longest h, and-false)

within : (l : List ℕ) → refusal_of l ≡ None → length l ≤ longest
within l e = go (dec_le (length l) longest)
  where
    go : Dec (length l ≤ longest) → length l ≤ longest
    go (yes h) = h
    go (no h) = let k = too_long l (omega arith) in let same : Some fault.Malformed ≡ None = cc in cc

-- ---- a pass over a file

-- a file that has not failed was opened
opens : (s : State) → has_failed s ≡ false → was_opened s ≡ true
opens state.Missing e = cc
opens state.Open e = refl
opens state.Ended e = refl
opens state.Failed e = cc

module _ (log : List ℕ) (i : Input) (chunks : List (List ℕ)) (p : Pass i chunks) (f : OfFile log i chunks) where
  size : length log ≡ length (joined chunks) + length f.rest
  size = ap length f.bytes ∙ length-append (joined chunks) f.rest

  whole : ended i ≡ true → joined chunks ≡ log
  whole e = sym (f.bytes ∙ ap (λ (l : List ℕ). joined chunks ++ l) (f.end e) ∙ append-nil (joined chunks))

  -- where it does not reach the file's end, it is past the longest log
  past : ended i ≡ false → longest < length (joined chunks)
  past e = rw p.read.count at (leb-false i.bytes longest (rw (f.fine, e) at p.ends))

  -- so it reaches the end of every log that is not too long
  to_end : length log ≤ longest → ended i ≡ true
  to_end h = go (ended i) refl
    where
      go : (e : Bool) → ended i ≡ e → ended i ≡ true
      go true q = q
      go false q = let k = past q in let n = size in absurd (omega arith)

  -- the refusal of the chunks is that of the log
  refusal-is : refused_first i chunks ≡ option_map refusal.Log (refusal_of log)
  refusal-is = rw (f.fine, (by-pieces chunks p.read.bytes).refusal) (ap (option_map refusal.Log) (go (ended i) refl))
    where
      go : (e : Bool) → ended i ≡ e → refusal_of (joined chunks) ≡ refusal_of log
      go true q = ap refusal_of (whole q)
      go false q = let k = past q in let n = size in too_long (joined chunks) k ∙ sym (too_long log (omega arith))

-- ---- both passes

module _ (log : List ℕ) (r : Outcome) (d : Dumps r) (f : OfFile log r.first d.first) (g : OfFile log r.second d.second) where
  refusal-first : refused_first r.first d.first ≡ option_map refusal.Log (refusal_of log)
  refusal-first = refusal-is log r.first d.first d.checks f

  -- a log that is not refused: the second pass reaches its end, and what is written is its dump
  module _ (z : refusal_of log ≡ None) where
    end : ended r.second ≡ true
    end = to_end log r.second d.second d.writes g (within log z)

    first-whole : joined d.first ≡ log
    first-whole = whole log r.first d.first d.checks f (to_end log r.first d.first d.checks f (within log z))

    alike : joined d.first ≡ joined d.second
    alike = first-whole ∙ sym (whole log r.second d.second d.writes g end)

    dumped : passes d.first d.second ≡ dump_of log
    dumped = dump-by-pieces d.first d.second alike d.checks.read.bytes ∙ ap dump_of first-whole

    read_back-changes : read_back (passes d.first d.second) ≡ changes_of log
    read_back-changes = reads-back d.first d.second alike d.checks.read.bytes ∙ ap changes_of first-whole

    open-again : is_open r.second ≡ true
    open-again = opens r.second.state g.fine

    written : standard_output r.first d.first r.second d.second ≡ passes d.first d.second
    unfolding standard_output
    written = rw (refusal-first, z, open-again)

pub every-log : EveryLog
unfolding refused_file standard_output
every-log log r d f g = record {
  refusal = d.refusal ∙ rw (refusal-first log r d f g) (same (refusal_of log) refl);
  output = rw (refusal-first log r d f g) (output (refusal_of log) refl);
  back = λ z. ap read_back (written log r d f g z) ∙ read_back-changes log r d f g z;
}
  where
    same : (o : Option Fault) → refusal_of log ≡ o → option_or (option_map refusal.Log o) (second_refusal r.second) ≡ option_map refusal.Log o
    same None q = rw (end log r d f g q)
    same (Some h) q = refl

    output : (o : Option Fault) → refusal_of log ≡ o → cond (is_none (option_map refusal.Log o) && is_open r.second) (passes d.first d.second) [] ≡ cond (is_none o) (dump_of log) []
    output None q = rw (open-again log r d f g q) (dumped log r d f g q)
    output (Some h) q = refl
