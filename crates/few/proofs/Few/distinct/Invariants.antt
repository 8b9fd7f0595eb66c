use Prim.Native.Nat.{◌-◌}
use Rattle.few.specs.Few.{distinct}
use Rattle.few.proofs.Passing.{Left}
use Rattle.few.proofs.Few.distinct.Given as goal

abbrev pub invariant-loop-i : goal.invariant-loop-i
invariant-loop-i l = Left distinct l.items l.len 0 l.i

abbrev pub decreases-loop-i : goal.decreases-loop-i
decreases-loop-i l = l.len - l.i
