use Rattle.oscillator.proofs.Loop.{Going}
use Prim.Native.Nat.{◌-◌}
use Rattle.oscillator.proofs.passing.run.Given as goal

abbrev pub invariant-loop-gap : goal.invariant-loop-gap
invariant-loop-gap l = Going l.initial.moving l.initial.at l.end.0 l.initial.area l.moving l.at l.written l.area

abbrev pub decreases-loop-gap : goal.decreases-loop-gap
decreases-loop-gap l = l.end.0 - l.at
