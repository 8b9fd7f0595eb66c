-- Sleep and wake, power reduction, TSM, prescaler reset, reset (01, "Count, direction, next event").
-- The sheet: "Sleep Modes"; "Power Reduction Register"; "Prescaler Reset"; "GTCCR – General Timer/Counter Control Register".
use Rattle.std.specs.Prelude.{ℕ, Bool, true, not, ◌&&◌, [], ◌∷◌, eqb, get_or}
use Rattle.std.specs.Int.Bits.{bit_and}
use Rattle.time.specs.Clock.{clock_at, accepted_at, restarted_at, released_at, woken_at}
use Rattle.time.specs.Halts.{sleep_from, wakened, reduce_to, hold_to, route_to}
use Rattle.counter.specs.declared.state.Timer.{Timer}
use Rattle.counter.specs.Fresh.{blank}
use Rattle.counter.specs.Logs.{Noted}
use Rattle.counter.specs.Parts.{clock_to, halts_to}
use Rattle.counter.specs.Registers.{driven}

-- an accepted call's cycle is the latest
abbrev pub latest_to : Timer → ℕ → Timer
latest_to t cycle = clock_to t (accepted_at t.clock cycle)

-- sleep mode m halts unless it is idle or the timer runs in it
unfoldable pub halting : Timer → ℕ → Bool
halting t m = not (eqb m 0) && eqb (bit_and t.config.sleeprun (get_or (1 ∷ 2 ∷ 4 ∷ 8 ∷ 16 ∷ 32 ∷ 64 ∷ 128 ∷ []) m 0)) 0

-- a halting sleep, from its cycle on
unfoldable pub asleep_at : Timer → ℕ → Timer
asleep_at t cycle = halts_to t (sleep_from t.halts cycle)

-- a wake adds the cycles its sleep halted to the origin, and makes its own cycle the sync cycle
unfoldable pub awake_at : Timer → ℕ → Timer
awake_at t cycle = clock_to (halts_to t (wakened t.halts)) (woken_at t.clock t.halts.since.0 cycle)

-- power reduction on or off
unfoldable pub reduced_to : Timer → Bool → Timer
reduced_to t on = halts_to t (reduce_to t.halts on)

-- the own prescaler reset: the origin is its cycle
unfoldable pub prescaled_at : Timer → ℕ → Timer
prescaled_at t cycle = clock_to t (restarted_at t.clock cycle)

-- TSM; its release makes its cycle the origin
unfoldable pub tsm_to : Timer → Bool → ℕ → Timer
tsm_to t on cycle = clock_to (halts_to t (hold_to t.halts on)) (released_at t.clock on cycle)

-- the comparator's output feeds the capture, or does not
unfoldable pub routed_to : Timer → Bool → Timer
routed_to t on = halts_to t (route_to t.halts on)

-- a reset: a fresh timer at its cycle that keeps TIFR, TIMSK, the drives last recorded and the latest cycle; its outputs go off
unfoldable pub reset_at : Timer → ℕ → Noted
reset_at t cycle = driven (blank t.config t.flags t.drives (clock_at cycle cycle t.clock.latest.0)) true 0
