-- What a call does to the timer beside letting time pass, with the records it makes.
-- The sheet: "External Clock Source", of the T pin's tick; the rest is 01's.
use Rattle.std.specs.Prelude.{ℕ, ◌≤◌, List, [], ◌≡◌, length, take}
use Rattle.records.specs.declared.Entry.{Entry}
use Rattle.records.specs.Records.{records_of}
use Rattle.tick.specs.Tick.{tick}
use Rattle.counter.specs.declared.advance.Logged.{Logged}
use Rattle.counter.specs.declared.state.Timer.{Timer}
use Rattle.counter.specs.Setting.{setting_of, moving_of, settle}

-- the timer after a call's work, and its entries in order
pub record Noted : Type 0 where
  pub timer : Timer
  pub log : List Entry

-- work that makes no record
abbrev pub silent : Timer → Noted
silent t = record { timer = t; log = [] }

-- what the code leaves of it: the timer, and the records' bytes in a log
pub record Logs (x : Noted) (cycle : ℕ) (r : Logged) : Type 0 where
  pub timer : r.timer ≡ x.timer
  pub bytes : take r.log.len r.log.bytes ≡ records_of cycle x.log
  pub size : length (take r.log.len r.log.bytes) ≡ r.log.len
  pub len : r.log.len ≤ 110

-- a chosen edge of the T pin works one tick
unfoldable pub struck : Timer → Noted
struck t = record { timer = settle t (tick (setting_of t) (moving_of t)).moving; log = (tick (setting_of t) (moving_of t)).log }
