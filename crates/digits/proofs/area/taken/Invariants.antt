-- The bytes of the pairs passed are stored.
use Rattle.std.proofs.Common.{◌≡◌}
use Rattle.digits.proofs.Storing.{Storing}
use Rattle.digits.proofs.area.taken.Given as goal

abbrev pub invariant-loop-pair : goal.invariant-loop-pair
invariant-loop-pair l = (l.n ≡ l.pair-index) × Storing l.pairs l.initial.out l.pair-index l.out
