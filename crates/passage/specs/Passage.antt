-- Two ways to let time pass: tick by tick, and by events.
-- The sheet: "Internal Clock Source", tick after tick; the rest is 01's.
use Rattle.std.specs.Prelude.{ℕ, zero, suc, ◌+◌, ◌-◌, ◌<◌, ◌≤◌, ◌^◌, ◌≡◌, Bool, true, false, cond, List, ◌++◌, length, take, drop, leb}
use Rattle.records.specs.Records.{records_of}
use Rattle.time.specs.declared.units.Prescaler.{Prescaler}
use Rattle.time.specs.Units.{cycle_at}
use Rattle.wave.specs.Distance.{gap}
use Rattle.passage.specs.declared.Progress.{Progress}
use Rattle.passage.specs.declared.Aside.{Aside}
use Rattle.passage.specs.declared.Finished.{Finished}
use Rattle.tick.specs.declared.setting.Moving.{Moving}
use Rattle.tick.specs.declared.setting.Setting.{Setting}
use Rattle.tick.specs.Tick.{Step, tick}
use Rattle.tick.specs.Skip.{linear}
use Rattle.tick.specs.Sound.{Sound}

-- where a run stands: what moved, the number of its last tick, the bytes written, and whether it stopped
pub record Run : Type 0 where
  pub moving : Moving
  pub at : ℕ
  pub bytes : List ℕ
  pub paused : Bool

-- a tick worked: its records are appended if they fit, else the run stops before it
abbrev pub appended : (ℕ → Bool) → Run → Step → List ℕ → Run
appended fits r s records =
    cond (fits (length (r.bytes ++ records)))
    (record { moving = s.moving; at = r.at + 1; bytes = r.bytes ++ records; paused = false })
    (record { moving = r.moving; at = r.at; bytes = r.bytes; paused = true })

-- the next tick of a run that has not stopped
unfoldable pub one : Setting → Prescaler → (ℕ → Bool) → Run → Run
one s p fits r =
    cond r.paused r
    (appended fits r (tick s r.moving) (records_of (cycle_at p (r.at + 1)) (tick s r.moving).log))

-- a way to work n ticks of a run
abbrev pub Passage : Type 0
Passage = Setting → Prescaler → (ℕ → Bool) → ℕ → Run → Run

-- n single ticks: the plain counter
unfoldable pub ticks : Passage
ticks s p fits zero r = r
ticks s p fits (suc n) r = ticks s p fits n (one s p fits r)

-- n quiet ticks in one step
unfoldable pub quiet : Setting → ℕ → Run → Run
quiet s n r = record { moving = linear s.wave n r.moving; at = r.at + n; bytes = r.bytes; paused = r.paused }

-- the quiet ticks before a run's next event
abbrev pub gap_in : Setting → Run → ℕ
gap_in s r = gap s.wave r.moving.counter r.moving.ocr

-- n ticks by events, of which there are at most so many: to the next event or the last tick in one step, then the event's tick
unfoldable pub skips : ℕ → Passage
skips zero s p fits n r = r
skips (suc most) s p fits n r =
    cond r.paused r
    (cond (leb n (gap_in s r)) (quiet s n r)
    (skips most s p fits (n - suc (gap_in s r)) (one s p fits (quiet s (gap_in s r) r))))

-- the counter that skips
abbrev pub events : Passage
events s p fits n r = skips n s p fits n r

-- ---- what the code's parts of a run say of it

-- what moves, with another odometer
abbrev pub odometer_to : Moving → ℕ → Moving
odometer_to m odometer = record { counter = record { count = m.counter.count; direction = m.counter.direction; blocked = m.counter.blocked; odometer = odometer }; ocr = m.ocr; oc = m.oc; drives = m.drives; tifr = m.tifr }

-- a run as the code has it, its bytes in the area
abbrev pub standing : Progress → List ℕ → Run
standing r area = record { moving = r.moving; at = r.at.0; bytes = take r.to area; paused = false }

-- a run that can go on to a tick: its gap is that of its next event, and numbers and bytes fit
pub record Ready (s : Setting) (p : Prescaler) (r : Progress) (end room : ℕ) : Type 0 where
  pub sound : Sound s r.moving
  pub gap : r.gap ≡ gap s.wave r.moving.counter r.moving.ocr
  pub upto : r.at.0 ≤ end
  pub ticks : end < 2 ^ 64
  pub cycles : cycle_at p end < 2 ^ 64
  pub bytes : r.to ≤ room

-- a run on its way: what is still to come of it is what was; with an event left before the end, fewer than 110 bytes are
pub record Ran (s : Setting) (p : Prescaler) (a : Progress) (end : ℕ) (before : List ℕ) (b : Progress) (after : List ℕ) : Type 0 where
  pub rest : ticks s p (λ k. leb k (length before)) (end - b.at.0) (standing b after) ≡ ticks s p (λ k. leb k (length before)) (end - a.at.0) (standing a before)
  pub left : drop b.to after ≡ drop b.to before
  pub ready : Ready s p b end (length before)
  pub ends : b.gap < end - b.at.0 → length before < b.to + 110

-- an event's tick made aside
pub record Made (s : Setting) (p : Prescaler) (a : Progress) (r : Aside) : Type 0 where
  pub moving : r.after.moving ≡ (tick s (linear s.wave a.gap a.moving)).moving
  pub at : r.after.at.0 ≡ a.at.0 + (a.gap + 1)
  pub gap : r.after.gap ≡ gap s.wave r.after.moving.counter r.after.moving.ocr
  pub sound : Sound s r.after.moving
  pub bytes : take r.log.len r.log.bytes ≡ records_of (cycle_at p (a.at.0 + (a.gap + 1))) (tick s (linear s.wave a.gap a.moving)).log
  pub size : length (take r.log.len r.log.bytes) ≡ r.log.len
  pub len : r.log.len ≤ 110

-- a run at its end
pub record Finishes (s : Setting) (p : Prescaler) (a : Progress) (end : ℕ) (before : List ℕ) (r : Finished) (after : List ℕ) : Type 0 where
  pub run : ticks s p (λ k. leb k (length before)) (end - a.at.0) (standing a before) ≡ record { moving = r.moving; at = r.at.0; bytes = take r.to after; paused = r.paused }
  pub left : drop r.to after ≡ drop r.to before
  pub room : r.to ≤ length before
  pub upto : r.at.0 ≤ end
