use Rattle.std.proofs.Common.{arith}
use Rattle.wave.specs.Distance.{moved}
use Rattle.wave.proofs.distance.moved.Goals as goal

pub overflow_sub-result : goal.overflow_sub-result
overflow_sub-result c = simp c.if-down.true at c.requires

pub overflow_add-result : goal.overflow_add-result
overflow_add-result c = record { fits = omega (arith, simp c.if-down.false at c.requires) }

pub returns-then-down : goal.returns-then-down
unfolding moved
returns-then-down c = simp c.if-down.true

pub returns-else-down : goal.returns-else-down
unfolding moved
returns-else-down c = simp c.if-down.false
