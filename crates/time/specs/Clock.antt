-- The clock that a timer keeps (01, "Count, direction, next event").
-- The sheet: "Internal Clock Source"; "Prescaler Reset".
use Rattle.std.specs.Prelude.{ℕ, ◌+◌, ◌-◌, max, Bool, cond}
use Rattle.time.specs.declared.clock.Clock.{Clock}

-- a clock at a sync cycle, an origin and a latest accepted cycle
abbrev pub clock_at : ℕ → ℕ → ℕ → Clock
clock_at sync origin latest = record { sync = record { 0 = sync }; origin = record { 0 = origin }; latest = record { 0 = latest } }

-- time has passed up to a cycle; the latest never falls
abbrev pub synced_at : Clock → ℕ → Clock
synced_at k cycle = record { sync = record { 0 = cycle }; origin = k.origin; latest = record { 0 = max k.latest.0 cycle } }

-- an accepted call's cycle is the latest
abbrev pub accepted_at : Clock → ℕ → Clock
accepted_at k cycle = record { sync = k.sync; origin = k.origin; latest = record { 0 = cycle } }

-- the own prescaler reset: the origin is its cycle
abbrev pub restarted_at : Clock → ℕ → Clock
restarted_at k cycle = record { sync = k.sync; origin = record { 0 = cycle }; latest = k.latest }

-- TSM; its release makes its cycle the origin
abbrev pub released_at : Clock → Bool → ℕ → Clock
released_at k on cycle = cond on k (restarted_at k cycle)

-- a wake adds the cycles its sleep halted to the origin, and makes its own cycle the sync cycle
abbrev pub woken_at : Clock → ℕ → ℕ → Clock
woken_at k since cycle = record { sync = record { 0 = cycle }; origin = record { 0 = k.origin.0 + (cycle - since) }; latest = k.latest }
