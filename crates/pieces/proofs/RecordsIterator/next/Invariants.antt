use Rattle.std.proofs.Common.{length}
use Rattle.pieces.proofs.Cuts.{SameLeft}
use Rattle.pieces.proofs.RecordsIterator.next.Given as goal

abbrev pub invariant-loop-b : goal.invariant-loop-b
invariant-loop-b l = SameLeft l.initial.self l.self

abbrev pub decreases-loop-b : goal.decreases-loop-b
decreases-loop-b l = length l.self.rest.now
