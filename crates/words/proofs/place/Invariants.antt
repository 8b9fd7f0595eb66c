-- `words::place` meets its contract. The loop's invariant: the names passed are others, and the word's place is counted on from the next.
use Rattle.std.proofs.Common.{◌≡◌, ◌+◌, ◌-◌, ◌≤◌, length, drop}
use Rattle.words.specs.Words.{words, place_in}
use Rattle.words.proofs.Places.{AtWord}
use Rattle.words.proofs.place.Given as goal

abbrev pub invariant-loop-at : goal.invariant-loop-at
invariant-loop-at l = (l.n ≤ l.at) × AtWord l.names l.at × (l.n + length (words (drop l.at l.names)) ≡ length (words l.names)) × (place_in l.word l.n (words (drop l.at l.names)) ≡ place_in l.word 0 (words l.names))

abbrev pub decreases-loop-at : goal.decreases-loop-at
decreases-loop-at l = length l.names - l.at
