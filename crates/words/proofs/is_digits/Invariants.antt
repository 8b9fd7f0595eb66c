-- The bytes passed are digits.
use Rattle.std.proofs.Common.{◌≡◌, true, take}
use Rattle.words.specs.Numbers.{all_digits}
use Rattle.words.proofs.is_digits.Given as goal

abbrev pub invariant-loop-b : goal.invariant-loop-b
invariant-loop-b l = all_digits 16 (take l.b-index l.word) ≡ true
