-- `words::seek` meets its contract. The loop's invariant: what is sought from the place on is what was sought at first.
use Rattle.std.proofs.Common.{◌≡◌, ◌≤◌}
use Rattle.words.specs.Words.{first_from, sought}
use Rattle.words.proofs.seek.Given as goal

abbrev pub invariant-loop-i : goal.invariant-loop-i
invariant-loop-i l = (l.from ≤ l.i) × (first_from (sought l.byte l.another) l.text l.i ≡ first_from (sought l.byte l.another) l.text l.from)
