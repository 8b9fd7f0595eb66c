-- The dump of a file (02, 2.10): why it is refused, and what standard output and standard error get.
use Rattle.std.specs.Prelude.{ℕ, cond, ◌&&◌, List, [], ◌++◌, ◌≡◌, pos, Option, None, Some, is_none}
use Rattle.std.specs.Option.{option_or}
use Rattle.figures.specs.Figures.{text, decimal}
use Rattle.verdict.specs.Check.{fresh}
use Rattle.verdict.specs.Claims.{checked_all}
use Rattle.dump.specs.Claims.{passes}
use Rattle.soak.specs.declared.refusal.Refusal.{Refusal}
use Rattle.soak.specs.declared.input.Input.{Input}
use Rattle.soak.specs.declared.Outcome.{Outcome}
use Rattle.soak.specs.Refusal.{number_of}
use Rattle.soak.specs.Input.{is_open}
use Rattle.soak.specs.Output.{output_of, wrote}
use Rattle.soak.specs.Passes.{Pass, first_refusal, second_refusal}

-- why the first pass refuses the file, by its chunks
abbrev pub refused_first : Input → List (List ℕ) → Option Refusal
refused_first i chunks = first_refusal i (checked_all fresh chunks)

-- why the file is refused: as the first pass has it, and the second where that refuses nothing
unfoldable pub refused_file : Input → List (List ℕ) → Input → Option Refusal
refused_file i first j = option_or (refused_first i first) (second_refusal j)

-- standard output: nothing where the first pass refuses the log or the file cannot be opened again, else what the two passes write
unfoldable pub standard_output : Input → List (List ℕ) → Input → List (List ℕ) → List ℕ
standard_output i first j second = cond (is_none (refused_first i first) && is_open j) (passes first second) []

-- standard error: the refusal's number in decimal and a line feed, nothing where there is none
unfoldable pub number_line : ℕ → List ℕ
number_line number = decimal number ++ text "\n"

abbrev pub standard_error : Option Refusal → List ℕ
standard_error None = []
standard_error (Some refusal) = number_line (number_of refusal)

-- for some answers of the file: the chunks of both passes, why it is refused, and what descriptors 1 and 2 got
pub record Dumps (r : Outcome) : Type 0 where
  pub first : List (List ℕ)
  pub second : List (List ℕ)
  pub checks : Pass r.first first
  pub writes : Pass r.second second
  pub refusal : r.refusal ≡ refused_file r.first first r.second
  pub out : r.out ≡ wrote (output_of (pos 1)) (standard_output r.first first r.second second)
  pub err : r.err ≡ wrote (output_of (pos 2)) (standard_error r.refusal)
