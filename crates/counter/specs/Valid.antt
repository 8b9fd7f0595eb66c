-- What the calls keep of a timer.
use Rattle.std.specs.Prelude.{ℕ, ◌≤◌, ◌<◌, ◌^◌, true, ◌≡◌, get_or}
use Rattle.config.specs.Config.{accepted}
use Rattle.wave.specs.Count.{Turns}
use Rattle.counter.specs.declared.state.Timer.{Timer}
use Rattle.counter.specs.Modes.{max_at}

-- the only premise of a call: numbers in range, and origin ≤ sync ≤ latest; asleep since a cycle between origin and latest
pub record Valid (t : Timer) : Type 0 where
  pub accepted : accepted t.config ≡ true
  pub count : t.counter.count ≤ max_at t.config.wide
  pub turns : Turns t.counter.direction
  pub odometer : t.counter.odometer < 2 ^ 64
  pub compares : (ch : ℕ) → get_or t.ocr ch 0 ≤ max_at t.config.wide
  pub buffers : (ch : ℕ) → get_or t.buffer ch 0 ≤ max_at t.config.wide
  pub icr : t.registers.icr ≤ max_at t.config.wide
  pub temp : t.registers.temp < 256
  pub origin : t.clock.origin.0 ≤ t.clock.sync.0
  pub sync : t.clock.sync.0 ≤ t.clock.latest.0
  pub latest : t.clock.latest.0 < 2 ^ 62
  pub slept : t.halts.asleep ≡ true → (t.clock.origin.0 ≤ t.halts.since.0) × (t.halts.since.0 ≤ t.clock.latest.0)
