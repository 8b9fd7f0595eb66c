-- Input capture, and edges of the T pin (01, "Registers and capture").
-- The sheet: "Input Capture Unit"; "Input Capture Trigger Source"; "External Clock Source".
use Rattle.std.specs.Prelude.{ℕ, ◌/◌, ◌%◌, Bool, true, false, not, ◌&&◌, eqb}
use Rattle.std.specs.Int.Bits.{bit_or}
use Rattle.wave.specs.Kinds.{I}
use Rattle.tick.specs.declared.happenings.Events.{Events}
use Rattle.tick.specs.Tick.{raised, flag_log}
use Rattle.counter.specs.declared.state.Timer.{Timer}
use Rattle.counter.specs.Logs.{Noted}
use Rattle.counter.specs.Modes.{chosen, mode_of, source_at, held_of}
use Rattle.counter.specs.Parts.{flags_to}
use Rattle.counter.specs.Registers.{icr_to}
use Rattle.counter.specs.Setting.{setting_of}

-- a capture needs an ICR that is not TOP, and the level chosen by TCCRnB bit 6
unfoldable pub captures : Timer → ℕ → Bool
captures t level = t.config.icr.present && not (eqb (source_at t.config.wide (mode_of t)) I) && eqb level (t.registers.tccrb / 64 % 2)

-- a capture alone happens
abbrev pub capture : Events
capture = record { a = false; b = false; c = false; top = false; zero = false; overflow = false; capture = true; load = false; bottom = false; rises = false }

-- it copies TCNT, then raises ICF
unfoldable pub captured : Timer → Noted
captured t = record {
  timer = flags_to (icr_to t t.counter.count) (bit_or t.flags.tifr (raised (setting_of t) capture)) t.flags.timsk;
  log = flag_log (setting_of t) capture (raised (setting_of t) capture) (bit_or t.flags.tifr (raised (setting_of t) capture));
}

-- a chosen T edge, if nothing holds the counter, works one tick
unfoldable pub ticks_on : Timer → ℕ → Bool
ticks_on t level = chosen t.config.clocks (t.registers.tccrb % 8) level && not (held_of t)
