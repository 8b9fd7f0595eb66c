-- The numbers of a log's refusals (02, 2.3).
use Rattle.std.specs.Prelude.{ℕ}
use Rattle.verdict.specs.declared.judge.Fault.{Fault}
use Rattle.verdict.specs.declared.judge.Fault.TheVariants as fault

abbrev pub number_of : Fault → ℕ
number_of fault.Malformed = 13
number_of fault.OutOfOrder = 14
number_of fault.TooLarge = 15
