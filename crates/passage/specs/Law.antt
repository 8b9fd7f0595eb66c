-- The law that ties the two passages of time, once over MAX: statements, proved in proofs/.
use Rattle.std.specs.Prelude.{ℕ, ◌≤◌, Bool, true, false, ◌≡◌, length}
use Rattle.time.specs.declared.units.Prescaler.{Prescaler}
use Rattle.tick.specs.declared.setting.Setting.{Setting}
use Rattle.tick.specs.Sound.{Sound}
use Rattle.passage.specs.Passage.{Run, ticks, events, quiet, gap_in}

-- a run that the law speaks of: its numbers are sound, and its bytes fit so far
pub record Kept (s : Setting) (fits : ℕ → Bool) (r : Run) : Type 0 where
  pub sound : Sound s r.moving
  pub fit : fits (length r.bytes) ≡ true

-- below the distance, n single ticks are one linear step without a record
abbrev pub QuietTicks : Type 0
QuietTicks = (s : Setting) (p : Prescaler) (fits : ℕ → Bool) (n : ℕ) (r : Run) → Kept s fits r → r.paused ≡ false → n ≤ gap_in s r → ticks s p fits n r ≡ quiet s n r

-- the passage by events is the passage by ticks, for every number of ticks and every room
abbrev pub EventsAreTicks : Type 0
EventsAreTicks = (s : Setting) (p : Prescaler) (fits : ℕ → Bool) (n : ℕ) (r : Run) → Kept s fits r → events s p fits n r ≡ ticks s p fits n r
