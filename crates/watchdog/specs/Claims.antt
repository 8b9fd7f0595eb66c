-- What is claimed of the watchdog over every list of calls (02, 2.8). Proofs stand apart, in proofs/.
use Rattle.std.specs.Prelude.{ℕ, ◌+◌, ◌≤◌, ◌<◌, true, false, List, [], ◌∷◌, ◌≡◌, length, take, Some, None, Result}
use Rattle.records.specs.Records.{record_of}
use Rattle.time.specs.declared.units.Cycle.{Cycle}
use Rattle.time.specs.Units.{ticks_at, cycle_at}
use Rattle.wdtcsr.specs.Timeouts.{count_to, timeout}
use Rattle.oscillator.specs.declared.state.Watchdog.{Watchdog}
use Rattle.oscillator.specs.State.{fresh, Valid}
use Rattle.oscillator.specs.Oscillator.{oscillator, Passage, ticks, timeouts, start, next_of}
use Rattle.watchdog.specs.declared.calls.Call.{Call}
use Rattle.watchdog.specs.declared.calls.Call.TheVariants as call
use Rattle.watchdog.specs.declared.outcome.Outcome.{Outcome}
use Rattle.watchdog.specs.declared.outcome.Refusal.{Refusal}
use Rattle.watchdog.specs.Outcome.{Told, Tells, heard}
use Rattle.watchdog.specs.Calls.{refusal_of, answered}

-- a call with its cycle and, for the advance, its area
pub record Request : Type 0 where
  pub call : Call
  pub cycle : ℕ
  pub area : List ℕ

-- a request answered, by a passage of time
abbrev pub told : Passage → Watchdog → Request → Told
told p w q = answered p w q.call q.cycle q.area

-- the outcomes of a list of requests, each on the watchdog as the last one left it; every outcome has the whole watchdog after it
unfoldable pub outcomes : Passage → Watchdog → List Request → List Told
outcomes p w [] = []
outcomes p w (q ∷ qs) = told p w q ∷ outcomes p (told p w q).watchdog qs

-- the watchdog after a list of requests
unfoldable pub last : Passage → Watchdog → List Request → Watchdog
last p w [] = w
last p w (q ∷ qs) = last p (told p w q).watchdog qs

-- Kept: every call leaves a valid watchdog valid
abbrev pub Kept : Type 0
Kept = (w : Watchdog) (q : Request) → Valid w → Valid (told ticks w q).watchdog

-- "skipping it agrees with working it one oscillator cycle at a time": over a list of calls, refused ones among them, the same
-- outcomes (refusal or answer, value, bytes, paused cycle, records in order, every area byte) and the same watchdog
pub record Same (w : Watchdog) (qs : List Request) : Type 0 where
  pub outcomes : outcomes timeouts w qs ≡ outcomes ticks w qs
  pub last : last timeouts w qs ≡ last ticks w qs

-- Alike: for every list of calls
abbrev pub Alike : Type 0
Alike = (qs : List Request) → Same fresh qs

-- a history of the public functions: each on the watchdog as the one before gave it back, or left it where it was refused, each with its promise
pub data History : Watchdog → List Request → List Told → Watchdog → Type 0 where
  nothing : (w : Watchdog) → History w [] [] w
  called : (w : Watchdog) (q : Request) (r : Result Outcome Refusal) (after : List ℕ) (qs : List Request) (xs : List Told) (u : Watchdog) → Tells (told ticks w q) w r after → History (heard w r after).watchdog qs xs u → History w (q ∷ qs) (heard w r after ∷ xs) u

-- what a history of the public functions gave is what the watchdog that skips gives, outcome by outcome
pub record Heard (qs : List Request) (xs : List Told) (u : Watchdog) : Type 0 where
  pub outcomes : xs ≡ outcomes timeouts fresh qs
  pub last : u ≡ last timeouts fresh qs

-- CodeIsRun: for every history from a fresh watchdog
abbrev pub CodeIsRun : Type 0
CodeIsRun = (qs : List Request) (xs : List Told) (u : Watchdog) → History fresh qs xs u → Heard qs xs u

-- n single ticks of a watchdog from its sync cycle on, in which nothing but the count moves
abbrev pub OnlyCounts : Watchdog → ℕ → ℕ → Type 0
OnlyCounts w n count =
    ticks (λ k. true) n (start w)
    ≡ record { moving = count_to w.moving count; at = ticks_at oscillator w.sync.0 + n; bytes = []; paused = false }

-- before the announced event nothing but the count moves, and with none announced not even that
pub record Quietly (w : Watchdog) (n : ℕ) : Type 0 where
  pub before : (next : Cycle) → next_of w ≡ Some next → cycle_at oscillator (ticks_at oscillator w.sync.0 + n) < next.0 → OnlyCounts w n (w.moving.count + n)
  pub never : next_of w ≡ None → OnlyCounts w n w.moving.count

-- Quiet: after any list of calls
abbrev pub Quiet : Type 0
Quiet = (qs : List Request) (n : ℕ) → Quietly (last ticks fresh qs) n

-- an advance that works the announced time-out: it comes to its cycle at least, and its first record is that time-out's
pub record Works (w : Watchdog) (next : ℕ) (x : Told) : Type 0 where
  pub reaches : next ≤ x.watchdog.sync.0
  pub tells : take 10 x.area ≡ record_of next (timeout w.moving)

-- Progress: after any list, an advance to the announced event or past it with ten bytes of area works it
abbrev pub Progress : Type 0
Progress = (qs : List Request) (cycle : ℕ) (area : List ℕ) (next : Cycle) → let w = last ticks fresh qs in
    next_of w ≡ Some next → refusal_of w call.Advance cycle ≡ 0 → next.0 ≤ cycle → 10 ≤ length area
    → Works w next.0 (told ticks w (record { call = call.Advance; cycle = cycle; area = area }))
