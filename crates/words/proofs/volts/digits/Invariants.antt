-- `words::volts::digits` meets its contract. The loop's invariant: the bytes passed are digits, and the number holds them, as far as it has room.
use Rattle.words.specs.Decimals.{held_of}
use Rattle.words.specs.Numbers.{all_digits}
use Rattle.std.proofs.Common.{◌≡◌, ◌^◌, ◌<◌, ◌≤◌, true, length, take}
use Rattle.words.proofs.volts.digits.Given as goal

abbrev pub invariant-loop-b : goal.invariant-loop-b
invariant-loop-b l = (l.b-index ≤ length l.word) × (all_digits 10 (take l.b-index l.word) ≡ true) × (l.value < 10 ^ 15) × (l.value ≡ held_of l.before (take l.b-index l.word))
