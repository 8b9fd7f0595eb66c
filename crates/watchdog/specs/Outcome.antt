-- What a call answers, in 02's terms.
use Rattle.std.specs.Prelude.{ℕ, List, ◌≡◌, Option, Result, Ok, Err}
use Rattle.time.specs.declared.units.Cycle.{Cycle}
use Rattle.oscillator.specs.declared.state.Watchdog.{Watchdog}
use Rattle.oscillator.specs.State.{accepted_at, Valid}
use Rattle.watchdog.specs.declared.outcome.Answer.{Answer}
use Rattle.watchdog.specs.declared.outcome.Answer.TheVariants as answer
use Rattle.watchdog.specs.declared.outcome.Outcome.{Outcome}
use Rattle.watchdog.specs.declared.outcome.Refusal.{Refusal}
use Rattle.watchdog.specs.declared.outcome.Refusal.TheVariants as refusal

-- the values that a call answers; a refusal has none of them
pub data Values : Type 0 where
  refused : Values
  none : Values
  byte : ℕ → Values
  event : Option Cycle → Values
  paused : ℕ → Values

-- the watchdog after a call, the refusal's number (0 where it is accepted), its values, the bytes written, and the whole area
pub record Told : Type 0 where
  pub watchdog : Watchdog
  pub number : ℕ
  pub values : Values
  pub written : ℕ
  pub area : List ℕ

-- a refusal returns its number only, and leaves watchdog and area as they were
abbrev pub turned : ℕ → Watchdog → List ℕ → Told
turned n w area = record { watchdog = w; number = n; values = refused; written = 0; area = area }

-- a call accepted at a cycle that writes no record
abbrev pub given : Watchdog → ℕ → Values → List ℕ → Told
given w cycle v area = record { watchdog = accepted_at w cycle; number = 0; values = v; written = 0; area = area }

-- the number of each of the code's refusals
abbrev pub number_of : Refusal → ℕ
number_of refusal.TooLarge = 2
number_of refusal.TooEarly = 3
number_of refusal.Due = 6
number_of refusal.TooLong = 17

-- the number of what the code refuses, 0 where it refuses nothing
abbrev pub number_in : {A : Type 0} → Result A Refusal → ℕ
number_in (Ok x) = 0
number_in (Err why) = number_of why

-- the values of each case of the code's answer
abbrev pub values_of : Answer → Values
values_of answer.Done = none
values_of (answer.Value v) = byte v
values_of (answer.Next n) = event n
values_of (answer.Paused c) = paused c.0

-- what the code's result for a watchdog and the area after it say: a refusal leaves the caller's own watchdog
abbrev pub heard : Watchdog → Result Outcome Refusal → List ℕ → Told
heard w (Ok r) after = record { watchdog = r.watchdog; number = 0; values = values_of r.answer; written = r.written; area = after }
heard w (Err why) after = turned (number_of why) w after

-- the result and every byte of the area are the definition's; the watchdog after the call is valid
pub record Tells (x : Told) (w : Watchdog) (r : Result Outcome Refusal) (after : List ℕ) : Type 0 where
  pub told : heard w r after ≡ x
  pub valid : Valid (heard w r after).watchdog
