-- The answers of the calls from what was written.
use Prim.Native.Nat.{ℕ, ◌≤◌}
use mathlib.Core.Path.{◌≡◌, refl, ap}
use mathlib.Core.Bool.{Bool, true, false, cond}
use mathlib.Core.List.{List, ◌++◌}
use lib.ListN.{length}
use Rattle.std.specs.Prelude.{Option, None, Some, Ok, Err}
use Rattle.std.specs.Option.{option_map_or}
use Rattle.pieces.specs.Pieces.{Bytes}
use Rattle.verdict.specs.declared.judge.Fault.{Fault}
use Rattle.verdict.specs.declared.judge.Fault.TheVariants as fault
use Rattle.verdict.specs.declared.Check.{Check}
use Rattle.verdict.specs.Fault.{number_of as number_of_fault}
use Rattle.verdict.specs.Changes.{changes_of}
use Rattle.verdict.specs.Refusal.{refusal_of}
use Rattle.verdict.specs.Check.{fresh, checked, refusal_in, pins_in}
use Rattle.verdict.proofs.Claims.{whole-refusal, whole-pins}
use Rattle.dump.specs.declared.DumpError.TheVariants as error
use Rattle.dump.specs.declared.writer.Writer.{Writer}
use Rattle.figures.specs.Figures.{Wrote}
use Rattle.dump.specs.Dump.{dump_of}
use Rattle.dump.specs.Pieces.{header_of, begun, written_by}
use Rattle.dump.specs.Answers.{number_of, Determined, Answers, refused_with, too_short, wrote, dump_outcome, Numbered}
use Rattle.figures.proofs.Writing.{wrote-front}
use Rattle.dump.proofs.Claims.{written-log, header_is}

-- ---- an answer in numbers

pub determined : Determined
determined (Ok n) = refl
determined (Err (error.Refused fault.Malformed)) = refl
determined (Err (error.Refused fault.OutOfOrder)) = refl
determined (Err (error.Refused fault.TooLarge)) = refl
determined (Err error.Short) = refl

pub numbered : Numbered
unfolding dump_outcome
numbered log area = go (refusal_of log) _
  where
    go : (o : Option Fault) (b : Bool) → number_of (option_map_or (λ f. refused_with f area) o (cond b (too_short area) (wrote (dump_of log) area))).answer ≡ option_map_or number_of_fault o 0
    go (Some f) b = refl
    go None true = refl
    go None false = refl

-- ---- a whole log

-- why a log is refused that is checked in one piece
pub refusal_is : (log : List ℕ) (b c : Check) (r : Option Fault) → Bytes log → b ≡ fresh → c ≡ checked b log → r ≡ refusal_in c → r ≡ refusal_of log
refusal_is log b c r k e f g = rw (g, f, e) (whole-refusal log k)

-- ---- what was written

pub wrote_answers : {old new bytes : List ℕ} {r : ℕ} → Wrote old new 0 r bytes → r ≤ length old → Answers (wrote bytes old) (Ok r) new
wrote_answers w l = let f = wrote-front w l in record { answer = ap Ok f.0; area = f.1 }

-- the header of the check of a log, then the lines of the log, are its dump
pub dump_is : (log : List ℕ) (pins : List Bool) (w : Writer) → Bytes log → pins ≡ pins_in (checked fresh log) → w ≡ begun → header_of pins ++ written_by w log ≡ dump_of log
unfolding dump_of
dump_is log pins w k a b = rw (a, b, header_is (pins_in (checked fresh log)) (changes_of log) (whole-pins log k), written-log log k)
