-- The oscillator's ticks, and two ways to let time pass: tick by tick, and from time-out to time-out (02, 2.8; the sheet, "Watchdog Timer").
use Rattle.std.specs.Prelude.{ℕ, zero, suc, ◌+◌, ◌-◌, ◌≤◌, ◌<◌, ◌^◌, max, ◌≡◌, Bool, true, false, cond, ◌&&◌, List, [], ◌++◌, length, take, drop, leb, Option, Some, None, is_some}
use Rattle.records.specs.Records.{records_of}
use Rattle.time.specs.declared.units.Cycle.{Cycle}
use Rattle.time.specs.declared.units.Prescaler.{Prescaler}
use Rattle.time.specs.declared.units.Ticks.{Ticks}
use Rattle.time.specs.Units.{ticks_at, cycle_at}
use Rattle.wdtcsr.specs.declared.state.Moving.{Moving}
use Rattle.wdtcsr.specs.State.{running, Sound}
use Rattle.wdtcsr.specs.Timeouts.{Step, tick, linear, gap_of, is_quiet}
use Rattle.oscillator.specs.declared.state.Watchdog.{Watchdog}
use Rattle.oscillator.specs.declared.passing.Advanced.{Advanced}
use Rattle.oscillator.specs.declared.passing.Finished.{Finished}
use Rattle.oscillator.specs.State.{moving_to, synced_at}

-- "at each multiple of 125 CPU cycles"
abbrev pub oscillator : Prescaler
oscillator = record { origin = record { 0 = 0 }; divisor = 125 }

-- ---- time passes

-- where a run stands: what moved, the number of its last tick, the bytes written, and whether it stopped
pub record Run : Type 0 where
  pub moving : Moving
  pub at : ℕ
  pub bytes : List ℕ
  pub paused : Bool

-- a tick worked: its records are appended if they fit, else the run stops before it
abbrev pub appended : (ℕ → Bool) → Run → Step → List ℕ → Run
appended fits r s records =
    cond (fits (length (r.bytes ++ records)))
    (record { moving = s.moving; at = r.at + 1; bytes = r.bytes ++ records; paused = false })
    (record { moving = r.moving; at = r.at; bytes = r.bytes; paused = true })

-- the next tick of a run that has not stopped
unfoldable pub one : (ℕ → Bool) → Run → Run
one fits r =
    cond r.paused r
    (appended fits r (tick r.moving) (records_of (cycle_at oscillator (r.at + 1)) (tick r.moving).log))

-- a way to work n ticks of a run
abbrev pub Passage : Type 0
Passage = (ℕ → Bool) → ℕ → Run → Run

-- n single ticks
unfoldable pub ticks : Passage
ticks fits zero r = r
ticks fits (suc n) r = ticks fits n (one fits r)

-- such ticks of a run
unfoldable pub quiet : ℕ → Run → Run
quiet n r = record { moving = linear n r.moving; at = r.at + n; bytes = r.bytes; paused = r.paused }

-- n ticks by time-outs, of which there are at most so many: to the next one or to the last tick in one step, then the time-out's tick
unfoldable pub skips : ℕ → Passage
skips zero fits n r = r
skips (suc most) fits n r =
    cond r.paused r
    (cond (is_quiet n r.moving) (quiet n r)
    (skips most fits (n - suc (gap_of r.moving)) (one fits (quiet (gap_of r.moving) r))))

-- the watchdog that skips
abbrev pub timeouts : Passage
timeouts fits n r = skips n fits n r

-- ---- of a watchdog

-- the ticks after the sync cycle, up to a cycle
unfoldable pub due : Watchdog → ℕ → ℕ
due w cycle = ticks_at oscillator cycle - ticks_at oscillator w.sync.0

-- a run begins at a tick
abbrev pub begin : Moving → ℕ → Run
begin m at = record { moving = m; at = at; bytes = []; paused = false }

-- at the sync cycle's
unfoldable pub start : Watchdog → Run
start w = begin w.moving (ticks_at oscillator w.sync.0)

-- a run's sync cycle: the call's, or of a stopped run the later of the old one and its last tick
unfoldable pub sync_of : Watchdog → ℕ → Run → ℕ
sync_of w cycle r = cond r.paused (max w.sync.0 (cycle_at oscillator r.at)) cycle

-- a run put back into the watchdog
unfoldable pub passed : Watchdog → ℕ → Run → Watchdog
passed w cycle r = synced_at (moving_to w r.moving) (sync_of w cycle r)

-- the run up to a cycle, stopping before the first tick whose records do not fit
unfoldable pub run_of : Passage → Watchdog → ℕ → (ℕ → Bool) → Run
run_of p w cycle fits = p fits (due w cycle) (start w)

-- the watchdog at a cycle that no time-out lies at or before
unfoldable pub synced : Passage → Watchdog → ℕ → Watchdog
synced p w cycle = passed w cycle (run_of p w cycle (λ k. true))

-- the cycle of the next time-out, while it runs
unfoldable pub next_at : Watchdog → ℕ
next_at w = cycle_at oscillator (ticks_at oscillator w.sync.0 + (gap_of w.moving + 1))

-- the next event, or none while it is stopped
unfoldable pub next_of : Watchdog → Option Cycle
next_of w = cond (running w.moving) (Some (record { 0 = next_at w })) None

-- the next event lies at or before a cycle
unfoldable pub is_due : Watchdog → ℕ → Bool
is_due w cycle = running w.moving && leb (next_at w) cycle

-- ---- what the code's run says

-- it can go on to a tick
pub record Ready (m : Moving) (from end : ℕ) : Type 0 where
  pub sound : Sound m
  pub upto : from ≤ end
  pub cycles : cycle_at oscillator end < 2 ^ 62

-- its last tick: the end, or the one where it stopped
abbrev pub last_of : ℕ → Option Ticks → ℕ
last_of end None = end
last_of end (Some at) = at.0

-- where it ended is where the run by ticks ends, its bytes in the area
pub record Finishes (m : Moving) (from end : ℕ) (before : List ℕ) (r : Finished) (after : List ℕ) : Type 0 where
  pub run : ticks (λ k. leb k (length before)) (end - from) (begin m from) ≡ record { moving = r.moving; at = last_of end r.paused; bytes = take r.written after; paused = is_some r.paused }
  pub left : drop r.written after ≡ drop r.written before
  pub room : r.written ≤ length before
  pub upto : last_of end r.paused ≤ end

-- an advance: the watchdog, the bytes written, whether it stopped, then with its sync cycle, and every byte of the area are those of the run by ticks
pub record Advances (w : Watchdog) (cycle : ℕ) (before : List ℕ) (r : Advanced) (after : List ℕ) : Type 0 where
  pub watchdog : r.watchdog ≡ passed w cycle (run_of ticks w cycle (λ k. leb k (length before)))
  pub written : r.written ≡ length (run_of ticks w cycle (λ k. leb k (length before))).bytes
  pub paused : r.paused ≡ cond (run_of ticks w cycle (λ k. leb k (length before))).paused (Some r.watchdog.sync) None
  pub area : after ≡ (run_of ticks w cycle (λ k. leb k (length before))).bytes ++ drop (length (run_of ticks w cycle (λ k. leb k (length before))).bytes) before
