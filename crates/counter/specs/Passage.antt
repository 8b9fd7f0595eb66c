-- Time passes: the ticks up to a cycle, or up to the first whose records do not fit.
-- The sheet: "Internal Clock Source"; the rest is 01's.
use Rattle.std.specs.Prelude.{ℕ, ◌-◌, max, ◌≡◌, Bool, true, false, cond, List, [], ◌++◌, length, drop, leb}
use Rattle.time.specs.declared.units.Prescaler.{Prescaler}
use Rattle.time.specs.Clock.{synced_at}
use Rattle.time.specs.Units.{ticks_at, cycle_at}
use Rattle.tick.specs.declared.setting.Moving.{Moving}
use Rattle.passage.specs.declared.Finished.{Finished}
use Rattle.passage.specs.Passage.{Run, Passage}
use Rattle.counter.specs.declared.advance.Work.{Work}
use Rattle.counter.specs.declared.advance.Advanced.{Advanced}
use Rattle.counter.specs.declared.state.Timer.{Timer}
use Rattle.counter.specs.Modes.{prescaler_of, running_of}
use Rattle.counter.specs.Parts.{clock_to}
use Rattle.counter.specs.Setting.{setting_of, moving_of, settle}
use Rattle.counter.specs.Valid.{Valid}

-- the ticks after the sync cycle, up to a cycle
unfoldable pub due : Timer → ℕ → ℕ
due t cycle = cond (running_of t) (ticks_at (prescaler_of t) cycle - ticks_at (prescaler_of t) t.clock.sync.0) 0

-- a run begins at the sync cycle
unfoldable pub start : Timer → Run
start t = record { moving = moving_of t; at = ticks_at (prescaler_of t) t.clock.sync.0; bytes = []; paused = false }

-- the timer at another sync cycle; the latest never falls
unfoldable pub sync_to : Timer → ℕ → Timer
sync_to t cycle = clock_to t (synced_at t.clock cycle)

-- a run's sync cycle: the call's, or of a stopped run the later of the old one and its last tick
unfoldable pub sync_of : Timer → ℕ → Run → ℕ
sync_of t cycle r = cond r.paused (max t.clock.sync.0 (cycle_at (prescaler_of t) r.at)) cycle

-- what time has made of a timer: the timer, the bytes written, and whether it stopped
pub record Passed : Type 0 where
  pub timer : Timer
  pub bytes : List ℕ
  pub paused : Bool

-- a run put back into the timer
unfoldable pub passed : Timer → ℕ → Run → Passed
passed t cycle r = record { timer = sync_to (settle t r.moving) (sync_of t cycle r); bytes = r.bytes; paused = r.paused }

-- the ticks up to a cycle, whatever their records
unfoldable pub synced : Passage → Timer → ℕ → Passed
synced p t cycle = passed t cycle (p (setting_of t) (prescaler_of t) (λ k. true) (due t cycle) (start t))

-- the ticks up to a cycle, stopping before the first whose records do not fit the area
unfoldable pub advanced : Passage → Timer → ℕ → ℕ → Passed
advanced p t cycle room = passed t cycle (p (setting_of t) (prescaler_of t) (λ k. leb k room) (due t cycle) (start t))

-- what an advance changes where nothing is written
abbrev pub quietly : Moving → ℕ → Work
quietly m cycle = record { moving = m; sync = record { 0 = cycle }; written = 0; paused = false }

-- what it changes where a run ended
abbrev pub work_of : Finished → Prescaler → ℕ → ℕ → Work
work_of f p sync cycle = record { moving = f.moving; sync = record { 0 = cond f.paused (max sync (cycle_at p f.at.0)) cycle }; written = f.to; paused = f.paused }

-- the timer, the bytes and the area that it stands for
pub record Works (t : Timer) (x : Passed) (before : List ℕ) (r : Work) (after : List ℕ) : Type 0 where
  pub timer : sync_to (settle t r.moving) r.sync.0 ≡ x.timer
  pub written : r.written ≡ length x.bytes
  pub paused : r.paused ≡ x.paused
  pub area : after ≡ x.bytes ++ drop (length x.bytes) before

-- an advance: the timer, the bytes written and whether it paused, every byte of the area; and the timer is valid
pub record Advances (x : Passed) (before : List ℕ) (r : Advanced) (after : List ℕ) : Type 0 where
  pub timer : r.timer ≡ x.timer
  pub written : r.written ≡ length x.bytes
  pub paused : r.paused ≡ x.paused
  pub area : after ≡ x.bytes ++ drop (length x.bytes) before
  pub valid : Valid r.timer
