-- The law of the two passages of time, of every valid timer: statements, proved in proofs/.
use Rattle.std.specs.Prelude.{ℕ, ◌≤◌, ◌<◌, ◌^◌, true, ◌≡◌}
use Rattle.passage.specs.Passage.{ticks, events, quiet}
use Rattle.counter.specs.declared.state.Timer.{Timer}
use Rattle.counter.specs.Modes.{running_of}
use Rattle.counter.specs.Setting.{setting_of}
use Rattle.counter.specs.Next.{next_at}
use Rattle.counter.specs.Passage.{due, start, passed, synced, advanced}
use Rattle.counter.specs.Valid.{Valid}

-- a sync by events is a sync by ticks
abbrev pub SyncsAlike : Type 0
SyncsAlike = (t : Timer) (cycle : ℕ) → Valid t → synced events t cycle ≡ synced ticks t cycle

-- and an advance by events one by ticks, paused or not
abbrev pub AdvancesAlike : Type 0
AdvancesAlike = (t : Timer) (cycle room : ℕ) → Valid t → advanced events t cycle room ≡ advanced ticks t cycle room

-- where no event lies at or before the cycle, sync is one linear step
abbrev pub SyncsQuietly : Type 0
SyncsQuietly = (t : Timer) (cycle : ℕ) → Valid t → t.clock.sync.0 ≤ cycle → (running_of t ≡ true → cycle < next_at t) → synced ticks t cycle ≡ passed t cycle (quiet (setting_of t) (due t cycle) (start t))

-- an advance keeps a timer valid
abbrev pub AdvanceKeeps : Type 0
AdvanceKeeps = (t : Timer) (cycle room : ℕ) → Valid t → t.clock.latest.0 ≤ cycle → cycle < 2 ^ 62 → Valid (advanced ticks t cycle room).timer
