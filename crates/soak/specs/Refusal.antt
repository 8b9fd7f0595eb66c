-- The numbers of the refusals of a file (02, 2.3 and 2.10).
use Rattle.std.specs.Prelude.{ℕ}
use Rattle.verdict.specs.Fault.{number_of as number_of_fault}
use Rattle.soak.specs.declared.refusal.Refusal.{Refusal}
use Rattle.soak.specs.declared.refusal.Refusal.TheVariants as refusal

abbrev pub number_of : Refusal → ℕ
number_of (refusal.Log fault) = number_of_fault fault
number_of refusal.Unreadable = 23
