use Prim.Native.Nat.{◌-◌}
use Rattle.few.specs.Few.{has}
use Rattle.few.proofs.Passing.{Left}
use Rattle.few.proofs.Few.has.Given as goal

abbrev pub invariant-loop-i : goal.invariant-loop-i
invariant-loop-i l = Left (has l.item) l.items l.len l.from l.i

abbrev pub decreases-loop-i : goal.decreases-loop-i
decreases-loop-i l = l.len - l.i
