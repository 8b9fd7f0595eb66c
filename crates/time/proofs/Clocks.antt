-- Ticks and cycles: their order.
use Prim.Native.Nat.{ℕ, ◌-◌, ◌≤◌, ◌<◌}
use native.Mathlib.Omega.{arith}
use native.Mathlib.Nat.{mul-le-mul_right, div-mul-le_self, le-div_iff_mul-le}
use Rattle.time.specs.declared.units.Prescaler.{Prescaler}
use Rattle.time.specs.Units.{ticks_at, cycle_at}

-- a later cycle has no fewer ticks, and a later tick no earlier cycle
pub ticks-mono : (p : Prescaler) (a b : ℕ) → 0 < p.divisor → a ≤ b → ticks_at p a ≤ ticks_at p b
unfolding ticks_at
ticks-mono p a b d h = (le-div_iff_mul-le d).1 (let k = div-mul-le_self (a - p.origin.0) p.divisor in omega arith)

pub cycle-mono : (p : Prescaler) (a b : ℕ) → a ≤ b → cycle_at p a ≤ cycle_at p b
unfolding cycle_at
cycle-mono p a b h = let k = mul-le-mul_right p.divisor h in omega arith

-- the last tick of a cycle is not after it
pub tick-before : (p : Prescaler) (cycle : ℕ) → p.origin.0 ≤ cycle → cycle_at p (ticks_at p cycle) ≤ cycle
unfolding ticks_at cycle_at
tick-before p cycle h = let k = div-mul-le_self (cycle - p.origin.0) p.divisor in omega arith
