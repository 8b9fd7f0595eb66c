-- A sync below the next event keeps it, its flags too: statements, proved in proofs/.
use Rattle.std.specs.Prelude.{ℕ, ◌-◌, ◌≤◌, ◌<◌, true, List, ◌≡◌}
use Rattle.wave.specs.declared.kinds.Wave.{Wave}
use Rattle.wave.specs.declared.count.Counter.{Counter}
use Rattle.wave.specs.Distance.{gap, skipped}
use Rattle.passage.specs.Passage.{ticks}
use Rattle.counter.specs.declared.state.Timer.{Timer}
use Rattle.counter.specs.Modes.{running_of}
use Rattle.counter.specs.Next.{next_at, next_of}
use Rattle.counter.specs.Passage.{synced}
use Rattle.counter.specs.Valid.{Valid}

-- quiet ticks that have passed no longer lie ahead
abbrev pub GapShrinks : Type 0
GapShrinks = (w : Wave) (c : Counter) (ocr : List ℕ) (n : ℕ) → n ≤ gap w c ocr → gap w (skipped w n c) ocr ≡ gap w c ocr - n

-- a sync below the next event keeps the next event
abbrev pub SyncKeepsNext : Type 0
SyncKeepsNext = (t : Timer) (cycle : ℕ) → Valid t → t.clock.sync.0 ≤ cycle → (running_of t ≡ true → cycle < next_at t) → next_of (synced ticks t cycle).timer ≡ next_of t
