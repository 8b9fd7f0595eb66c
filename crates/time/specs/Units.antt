-- Cycles and ticks (01, "Count, direction, next event"). A cycle number becomes a tick number only here.
-- The sheet: "Internal Clock Source".
use Rattle.std.specs.Prelude.{ℕ, ◌+◌, ◌-◌, ◌*◌, ◌/◌, ◌^◌, cond, ltb}
use Rattle.time.specs.declared.units.Prescaler.{Prescaler}

-- 2: a cycle over 2^62 − 1; 3: a cycle below the latest accepted; 0 for none (01, "Calls turned away")
abbrev pub late_at : ℕ → ℕ → ℕ
late_at latest cycle = cond (ltb (2 ^ 62 - 1) cycle) 2 (cond (ltb cycle latest) 3 0)

-- the number of the last tick at or before a cycle
unfoldable pub ticks_at : Prescaler → ℕ → ℕ
ticks_at p cycle = (cycle - p.origin.0) / p.divisor

-- ticks fall at origin + k × divisor
unfoldable pub cycle_at : Prescaler → ℕ → ℕ
cycle_at p k = p.origin.0 + k * p.divisor

-- the prescaler of an origin and a divisor of 2^shift
abbrev pub prescaler_at : ℕ → ℕ → Prescaler
prescaler_at origin shift = record { origin = record { 0 = origin }; divisor = 2 ^ shift }
