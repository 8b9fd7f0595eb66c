-- The next event (01, "Count, direction, next event").
-- The sheet: nothing of its own, it is reckoned from Distance.
use Rattle.std.specs.Prelude.{ℕ, ◌+◌, cond}
use Rattle.time.specs.Units.{ticks_at, cycle_at}
use Rattle.tick.specs.Distance.{flags_ahead}
use Rattle.tick.specs.Skip.{distance}
use Rattle.counter.specs.declared.next.Next.{Next}
use Rattle.counter.specs.declared.next.Next.TheVariants.{At, Never}
use Rattle.counter.specs.declared.state.Timer.{Timer}
use Rattle.counter.specs.Modes.{mode_of, wave_of, prescaler_of, running_of}
use Rattle.counter.specs.Setting.{setting_of, moving_of}

-- the cycle that the Rust's schedule computes: the distance on from the last tick
unfoldable pub next_at : Timer → ℕ
next_at t = cycle_at (prescaler_of t) (ticks_at (prescaler_of t) t.clock.sync.0 + distance (wave_of t (mode_of t)) (moving_of t))

-- the flags that its tick will raise, 0 when not running (02, 2.2)
unfoldable pub next_flags : Timer → ℕ
next_flags t = cond (running_of t) (flags_ahead (setting_of t) (moving_of t)) 0

-- the next event with its flags, or none when not running (02, 2.2)
unfoldable pub next_of : Timer → Next
next_of t = cond (running_of t) (At (record { 0 = next_at t }) (flags_ahead (setting_of t) (moving_of t))) Never
