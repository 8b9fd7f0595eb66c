use Prim.Native.Nat.{◌-◌}
use mathlib.Core.Path.{◌≡◌}
use Rattle.passage.proofs.Loops.{Lags}
use Rattle.passage.proofs.Progress.run.Given as goal

abbrev pub invariant-loop-gap : goal.invariant-loop-gap
invariant-loop-gap l = (Lags l.s l.p (record { moving = l.initial.m; gap = l.initial.gap; at = record { 0 = l.initial.at }; to = l.initial.to }) l.end.0 l.initial.area l.m l.gap l.at l.to l.area) × (l.odometer ≡ l.initial.m.counter.odometer) × (l.from.0 ≡ l.initial.at)

abbrev pub decreases-loop-gap : goal.decreases-loop-gap
decreases-loop-gap l = l.end.0 - l.at
