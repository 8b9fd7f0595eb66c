-- What the calls of the dump answer, in 02's terms (02, 2.3 and 2.10), and the area after the call.
use Rattle.std.specs.Prelude.{ℕ, ◌+◌, ◌-◌, ◌/◌, ◌≡◌, Bool, true, false, cond, ◌||◌, List, ◌++◌, eqb, ltb, length, drop, Result, Ok, Err}
use Rattle.std.specs.Option.{option_map_or}
use Rattle.verdict.specs.declared.judge.Fault.{Fault}
use Rattle.verdict.specs.declared.judge.Fault.TheVariants as fault
use Rattle.verdict.specs.declared.Check.{Check}
use Rattle.verdict.specs.Fault.{number_of as number_of_fault}
use Rattle.verdict.specs.Refusal.{refusal_of}
use Rattle.verdict.specs.Check.{pins_in}
use Rattle.dump.specs.declared.DumpError.{DumpError}
use Rattle.dump.specs.declared.DumpError.TheVariants as error
use Rattle.dump.specs.declared.writer.Writer.{Writer}
use Rattle.dump.specs.Dump.{dump_of}
use Rattle.dump.specs.Pieces.{header_of, written_by}

-- ---- an answer in numbers

-- 02's number, 0 where there is none; it has none for an area that is too short
abbrev pub number_of : Result ℕ DumpError → ℕ
number_of (Ok n) = 0
number_of (Err (error.Refused fault)) = number_of_fault fault
number_of (Err error.Short) = 0

-- whether the area is too short
abbrev pub short_of : Result ℕ DumpError → Bool
short_of (Ok n) = false
short_of (Err (error.Refused fault)) = false
short_of (Err error.Short) = true

-- how many bytes were written, none of a refused or a short call
abbrev pub written_of : Result ℕ DumpError → ℕ
written_of (Ok n) = n
written_of (Err e) = 0

-- the fault that a refusal's number says
abbrev pub fault_of : ℕ → Fault
fault_of n = cond (eqb n 13) fault.Malformed (cond (eqb n 14) fault.OutOfOrder fault.TooLarge)

-- the answer that the numbers say
abbrev pub answer_of : ℕ → Bool → ℕ → Result ℕ DumpError
answer_of number short written = cond short (Err error.Short) (cond (eqb number 0) (Ok written) (Err (error.Refused (fault_of number))))

-- Determined: the numbers determine the answer, its case too
abbrev pub Determined : Type 0
Determined = (a : Result ℕ DumpError) → answer_of (number_of a) (short_of a) (written_of a) ≡ a

-- ---- the outcome of each call

-- what a call answers, and the whole area after it
pub record Outcome : Type 0 where
  pub answer : Result ℕ DumpError
  pub area : List ℕ

-- the code's answer, and every byte of the area, are those of an outcome
pub record Answers (x : Outcome) (a : Result ℕ DumpError) (after : List ℕ) : Type 0 where
  pub answer : a ≡ x.answer
  pub area : after ≡ x.area

-- a refusal leaves the area as it was
abbrev pub refused_with : Fault → List ℕ → Outcome
refused_with fault area = record { answer = Err (error.Refused fault); area = area }

-- so does a call whose area is too short
abbrev pub too_short : List ℕ → Outcome
too_short area = record { answer = Err error.Short; area = area }

-- bytes from the area's start, and the rest as it was
abbrev pub wrote : List ℕ → List ℕ → Outcome
wrote bytes area = record { answer = Ok (length bytes); area = bytes ++ drop (length bytes) area }

-- a header has at most 6,954 bytes: two lines of 21, and 256 of 27
abbrev pub header_short : List ℕ → Bool
header_short area = ltb (length area) 6954

-- a piece makes one record whole for each ten bytes, and one more; a record has at most 32 bytes
abbrev pub lines_short : ℕ → List ℕ → Bool
lines_short room bytes = ltb (room / 32) (length bytes / 10 + 1)

-- the lines before the changes, of a log that was checked
unfoldable pub header_outcome : Check → List ℕ → Outcome
header_outcome c area = cond (header_short area) (too_short area) (wrote (header_of (pins_in c)) area)

-- the lines of a piece
unfoldable pub lines_outcome : Writer → List ℕ → List ℕ → Outcome
lines_outcome w bytes area = cond (lines_short (length area) bytes) (too_short area) (wrote (written_by w bytes) area)

-- the dump of a whole log; the refusal comes first
unfoldable pub dump_outcome : List ℕ → List ℕ → Outcome
dump_outcome log area =
    option_map_or (λ fault. refused_with fault area) (refusal_of log)
    (cond (header_short area || lines_short (length area - 6954) log) (too_short area) (wrote (dump_of log) area))

-- its number is that of the log's refusal
abbrev pub Numbered : Type 0
Numbered = (log area : List ℕ) → number_of (dump_outcome log area).answer ≡ option_map_or number_of_fault (refusal_of log) 0
