use Rattle.writes.proofs.Lists.{Going, count}
use Prim.Native.Nat.{◌-◌}
use Rattle.writes.proofs.writes.Given as goal

abbrev pub invariant-loop-done : goal.invariant-loop-done
invariant-loop-done l = Going l.initial.u l.list l.initial.area l.u l.done l.to l.area

abbrev pub decreases-loop-done : goal.decreases-loop-done
decreases-loop-done l = count l.list - l.done
