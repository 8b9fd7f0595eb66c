-- `words::numeral_in` meets its contract. The loop's invariant: the bytes passed are digits, and the number is what they make, or too large.
use Rattle.std.proofs.Common.{◌≡◌, ◌≤◌, true, length, take}
use Rattle.words.specs.Numbers.{all_digits, extended, limited}
use Rattle.words.proofs.numeral_in.Given as goal

abbrev pub invariant-loop-b : goal.invariant-loop-b
invariant-loop-b l = (l.b-index ≤ length l.word) × (all_digits l.radix (take l.b-index l.word) ≡ true) × (l.value ≡ limited l.most (extended l.radix 0 (take l.b-index l.word)))
