-- A fresh timer (01, "Readings on the bench", and refusal 1 of "Calls turned away").
-- The sheet: the initial values of "Register Description".
use Rattle.std.specs.Prelude.{true, false, cond, [], ◌∷◌, ◌≡◌, pos}
use Rattle.config.specs.declared.Config.{Config}
use Rattle.config.specs.Config.{accepted, least}
use Rattle.tick.specs.declared.setting.Drives.{Drives}
use Rattle.counter.specs.declared.fresh.Started.{Started}
use Rattle.time.specs.declared.clock.Clock.{Clock}
use Rattle.time.specs.Clock.{clock_at}
use Rattle.time.specs.Halts.{unheld}
use Rattle.counter.specs.declared.state.Flags.{Flags}
use Rattle.counter.specs.declared.state.Timer.{Timer}
use Rattle.counter.specs.Valid.{Valid}

-- a timer with its registers and its odometer clear, counting up from 0, and nothing holding it, of some flags, drives and clock
abbrev pub blank : Config → Flags → Drives → Clock → Timer
blank c f d k = record {
  config = c;
  counter = record { count = 0; direction = pos 1; blocked = false; odometer = 0 };
  ocr = 0 ∷ 0 ∷ 0 ∷ [];
  buffer = 0 ∷ 0 ∷ 0 ∷ [];
  oc = 0 ∷ 0 ∷ 0 ∷ [];
  drives = d;
  registers = record { tccra = 0; tccrb = 0; icr = 0; temp = 0 };
  flags = f;
  clock = k;
  halts = unheld;
}

-- a fresh timer at cycle 0; the drive last recorded starts as enable 0, value 0
unfoldable pub fresh_of : Config → Timer
fresh_of c = blank c (record { tifr = 0; timsk = 0 }) (record { enables = 0 ∷ 0 ∷ 0 ∷ []; values = 0 ∷ 0 ∷ 0 ∷ [] }) (clock_at 0 0 0)

-- a configuration that breaks a rule is refused with 1, and the timer beside the refusal is of the least configuration
unfoldable pub started_of : Config → Started
started_of c = cond (accepted c) (record { number = 0; timer = fresh_of c }) (record { number = 1; timer = fresh_of least })

-- the fresh timer of an accepted configuration is valid
abbrev pub FreshIsValid : Type 0
FreshIsValid = (c : Config) → accepted c ≡ true → Valid (fresh_of c)
