-- What a watchdog keeps (02, 2.8; the sheet, "Watchdog Timer").
use Rattle.std.specs.Prelude.{ℕ, ◌≤◌, ◌<◌, ◌^◌, max, false}
use Rattle.wdtcsr.specs.declared.state.Moving.{Moving}
use Rattle.wdtcsr.specs.State.{shut, Sound}
use Rattle.oscillator.specs.declared.state.Watchdog.{Watchdog}

-- "at first with all bits clear", at cycle 0
abbrev pub fresh : Watchdog
fresh = record {
  moving = record { count = 0; control = record { wdif = false; wdie = false; wde = false; wdp = 0 }; window = shut };
  sync = record { 0 = 0 };
  latest = record { 0 = 0 };
}

-- what moves is another
abbrev pub moving_to : Watchdog → Moving → Watchdog
moving_to w m = record { moving = m; sync = w.sync; latest = w.latest }

-- time has passed up to a cycle; the latest never falls
abbrev pub synced_at : Watchdog → ℕ → Watchdog
synced_at w cycle = record { moving = w.moving; sync = record { 0 = cycle }; latest = record { 0 = max w.latest.0 cycle } }

-- an accepted call's cycle is the latest
abbrev pub accepted_at : Watchdog → ℕ → Watchdog
accepted_at w cycle = record { moving = w.moving; sync = w.sync; latest = record { 0 = cycle } }

-- what the calls keep of a watchdog
pub record Valid (w : Watchdog) : Type 0 where
  pub sound : Sound w.moving
  pub since : w.moving.window.since.0 ≤ w.latest.0
  pub sync : w.sync.0 ≤ w.latest.0
  pub latest : w.latest.0 < 2 ^ 62
