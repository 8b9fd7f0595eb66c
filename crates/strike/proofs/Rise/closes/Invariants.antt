use Prim.Native.Nat.{◌+◌, ◌-◌}
use mathlib.Core.Path.{◌≡◌}
use lib.ListN.{length}
use Rattle.strike.specs.Strike.{Fit}
use Rattle.strike.proofs.Climbs.{AllRise}
use Rattle.strike.proofs.Rise.closes.Given as goal

abbrev pub invariant-loop-r : goal.invariant-loop-r
invariant-loop-r l = (length l.area ≡ length l.initial.area) × (Fit l.s l.shift l.r (length l.area)) × (AllRise l.s l.shift l.initial.r l.cycle l.initial.area l.r l.area)

abbrev pub decreases-loop-r : goal.decreases-loop-r
decreases-loop-r l = l.cycle + 1 - l.r.next
