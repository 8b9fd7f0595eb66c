use Prim.Native.Nat.{◌-◌}
use mathlib.Core.Path.{◌≡◌}
use Rattle.passage.proofs.Loops.{Going}
use Rattle.passage.proofs.Progress.finish.Given as goal

abbrev pub invariant-loop-r : goal.invariant-loop-r
invariant-loop-r l = (l.at ≡ l.r.at.0) × (Going l.s l.p l.initial.r l.end.0 l.initial.area l.r l.area)

abbrev pub decreases-loop-r : goal.decreases-loop-r
decreases-loop-r l = l.end.0 - l.at
