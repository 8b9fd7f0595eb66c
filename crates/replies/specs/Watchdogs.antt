-- A watchdog's answers in numbers.
use Rattle.std.specs.Prelude.{ℕ, List, ◌≡◌, Some, None}
use Rattle.watchdog.specs.declared.calls.Call.{Call}
use Rattle.oscillator.specs.declared.state.Watchdog.{Watchdog}
use Rattle.oscillator.specs.State.{Valid}
use Rattle.oscillator.specs.Oscillator.{ticks}
use Rattle.watchdog.specs.Outcome.{Values, refused, none, byte, event, paused, Told}
use Rattle.watchdog.specs.Calls.{answered}
use Rattle.replies.specs.declared.watchdogs.Report.{Report}
use Rattle.replies.specs.declared.watchdogs.Watched.{Watched}

-- 0 no value, 1 WDTCSR, 2 the next event, 3 none to come, 4 a sync cycle
abbrev pub what_of : Values → ℕ
what_of refused = 0
what_of none = 0
what_of (byte v) = 1
what_of (event (Some c)) = 2
what_of (event None) = 3
what_of (paused c) = 4

abbrev pub value_of : Values → ℕ
value_of refused = 0
value_of none = 0
value_of (byte v) = v
value_of (event (Some c)) = c.0
value_of (event None) = 0
value_of (paused c) = c

abbrev pub report_of : ℕ → Values → ℕ → Report
report_of number values written = record { number = number; what = what_of values; value = value_of values; written = written }

-- what a call tells, its answer in numbers
abbrev pub watched_of : Told → Watched
watched_of x = record { watchdog = x.watchdog; report = report_of x.number x.values x.written }

-- the watchdog after a call, the report, and every byte of the area
pub record Reports (x : Told) (r : Watched) (after : List ℕ) : Type 0 where
  pub watchdog : r.watchdog ≡ x.watchdog
  pub report : r.report ≡ report_of x.number x.values x.written
  pub area : after ≡ x.area
  pub valid : Valid r.watchdog

-- a call without an area, which leaves every area as it is
abbrev pub Reported : Watchdog → Call → ℕ → Watched → Type 0
Reported w c cycle r = (area : List ℕ) → Reports (answered ticks w c cycle area) r area
