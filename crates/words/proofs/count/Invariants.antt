-- `words::count` meets its contract. The loop's invariant: the words passed, with those from the place on, are all.
use Rattle.std.proofs.Common.{◌≡◌, ◌+◌, ◌-◌, ◌≤◌, length, drop}
use Rattle.words.specs.Words.{words}
use Rattle.words.proofs.Places.{AtWord}
use Rattle.words.proofs.count.Given as goal

abbrev pub invariant-loop-at : goal.invariant-loop-at
invariant-loop-at l = (l.n ≤ l.at) × AtWord l.text l.at × (l.n + length (words (drop l.at l.text)) ≡ length (words (drop l.from l.text)))

abbrev pub decreases-loop-at : goal.decreases-loop-at
decreases-loop-at l = length l.text - l.at
