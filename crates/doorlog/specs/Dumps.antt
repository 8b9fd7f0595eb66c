-- A dump's outcome in numbers (02, 2.3).
use Rattle.std.specs.Prelude.{ℕ, List, Result, ◌≡◌}
use Rattle.dump.specs.declared.DumpError.{DumpError}
use Rattle.dump.specs.Answers.{number_of, short_of, written_of, Outcome}
use Rattle.doorlog.specs.declared.dumps.Dumped.{Dumped}

-- an answer in numbers
abbrev pub numbers_of : Result ℕ DumpError → Dumped
numbers_of answer = record { number = number_of answer; short = short_of answer; written = written_of answer }

-- the numbers, and every byte of the area, are those of an outcome
pub record Dumps (x : Outcome) (r : Dumped) (after : List ℕ) : Type 0 where
  pub numbers : r ≡ numbers_of x.answer
  pub area : after ≡ x.area
