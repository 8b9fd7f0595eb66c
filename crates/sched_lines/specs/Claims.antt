-- How long the answers of the scheduler's lines may be.
use Rattle.std.specs.Prelude.{ℕ, ◌≤◌, List, length}
use Rattle.scheduler.specs.declared.Scheduler.{Scheduler}
use Rattle.sched_lines.specs.Sched.{sched_of}

-- none is longer, for any scheduler and line
abbrev pub ShortSched : Type 0
ShortSched = (s : Scheduler) (nth : ℕ) (line : List ℕ) (at : ℕ) → length (sched_of s nth line at).1 ≤ 104
