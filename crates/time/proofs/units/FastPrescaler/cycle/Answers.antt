use Prim.Native.Nat.{◌+◌, ◌*◌, ◌^◌}
use native.Mathlib.Omega.{arith}
use native.Mathlib.Nat.{mod-eq_of_lt}
use mathlib.Core.Path.{refl}
use borrow.Author.Rules.{rules}
use Rattle.time.specs.Units.{cycle_at}
use Rattle.time.proofs.units.FastPrescaler.cycle.Goals as goal

pub overflow_add-result : goal.overflow_add-result
unfolding cycle_at
overflow_add-result c = record { fits = omega arith }

pub returns : goal.returns
unfolding cycle_at
returns c = omega arith
