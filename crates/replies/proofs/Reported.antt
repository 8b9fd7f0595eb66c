-- What the watchdog's calls in numbers promise, of what the calls do.
use mathlib.Core.List.{List}
use mathlib.Core.Path.{◌≡◌, refl}
use Prim.Native.Nat.{ℕ}
use Rattle.std.specs.Prelude.{Result, Ok, Err}
use Rattle.oscillator.specs.declared.state.Watchdog.{Watchdog}
use Rattle.watchdog.specs.declared.outcome.Outcome.{Outcome}
use Rattle.watchdog.specs.declared.outcome.Refusal.{Refusal}
use Rattle.watchdog.specs.Outcome.{Told, heard, Tells}
use Rattle.replies.specs.declared.watchdogs.Watched.{Watched}
use Rattle.replies.specs.Watchdogs.{watched_of, Reports}

pub reports : {x : Told} {w : Watchdog} {a : Result Outcome Refusal} {r : Watched} {after : List ℕ} → Tells x w a after → ((area : List ℕ) → r ≡ watched_of (heard w a area)) → Reports x r after
reports {a = Ok o} {after = after} e er = rw (er after, ← e.told) (record { watchdog = refl; report = refl; area = refl; valid = e.valid })
reports {a = Err why} {after = after} e er = rw (er after, ← e.told) (record { watchdog = refl; report = refl; area = refl; valid = e.valid })
