-- What each call does: refusals first, then the time that passes, then its own work (02, 2.8).
use Rattle.std.specs.Prelude.{ℕ, cond, List, ◌++◌, eqb, leb, length, drop, Result}
use Rattle.time.specs.Units.{late_at}
use Rattle.wdtcsr.specs.declared.state.Moving.{Moving}
use Rattle.wdtcsr.specs.Wdtcsr.{value_of, too_long, written, rewound, served}
use Rattle.oscillator.specs.declared.state.Watchdog.{Watchdog}
use Rattle.oscillator.specs.State.{moving_to}
use Rattle.oscillator.specs.Oscillator.{Run, Passage, ticks, passed, run_of, synced, next_of, is_due}
use Rattle.watchdog.specs.declared.calls.Call.{Call}
use Rattle.watchdog.specs.declared.calls.Call.TheVariants as call
use Rattle.watchdog.specs.declared.outcome.Outcome.{Outcome}
use Rattle.watchdog.specs.declared.outcome.Refusal.{Refusal}
use Rattle.watchdog.specs.Outcome.{none, byte, event, paused, Told, turned, given, Tells}

-- ---- refusals: "01's numbers 2, 3 and 6 stand here too"

-- 2: cycle over 2^62 − 1; 3: cycle below the latest accepted
abbrev pub late : Watchdog → ℕ → ℕ
late w cycle = late_at w.latest.0 cycle

-- then 6: the next event lies at or before the cycle; 0 for none
unfoldable pub early : Watchdog → ℕ → ℕ
early w cycle = cond (eqb (late w cycle) 0) (cond (is_due w cycle) 6 0) (late w cycle)

-- then 17 of a write, "tested after 01's number 6"
unfoldable pub refusal_of : Watchdog → Call → ℕ → ℕ
refusal_of w call.Advance cycle = late w cycle
refusal_of w call.Next cycle = early w cycle
refusal_of w call.Wdr cycle = early w cycle
refusal_of w call.Serve cycle = early w cycle
refusal_of w call.Read cycle = early w cycle
refusal_of w (call.Write value) cycle = cond (eqb (early w cycle) 0) (cond (too_long w.moving.window value cycle) 17 0) (early w cycle)

-- ---- answers

-- an advance stops before the first time-out whose record does not fit, and then answers its sync cycle
unfoldable pub moved : Watchdog → Run → List ℕ → Told
moved w r area = record {
  watchdog = w;
  number = 0;
  values = cond r.paused (paused w.sync.0) none;
  written = length r.bytes;
  area = r.bytes ++ drop (length r.bytes) area;
}

-- the run of an advance, with the room that its area has
abbrev pub advanced : Passage → Watchdog → ℕ → List ℕ → Run
advanced p w cycle area = run_of p w cycle (λ k. leb k (length area))

-- the watchdog whose time has passed, what moves in it worked on
abbrev pub worked : Passage → Watchdog → ℕ → (Moving → Moving) → Watchdog
worked p w cycle f = moving_to (synced p w cycle) (f (synced p w cycle).moving)

-- each call's work; only the advance writes records, only `next` lets no time pass
unfoldable pub performed : Passage → Watchdog → Call → ℕ → List ℕ → Told
performed p w call.Advance cycle area = moved (passed w cycle (advanced p w cycle area)) (advanced p w cycle area) area
performed p w call.Next cycle area = given w cycle (event (next_of w)) area
performed p w call.Wdr cycle area = given (worked p w cycle rewound) cycle none area
performed p w call.Serve cycle area = given (worked p w cycle served) cycle none area
performed p w call.Read cycle area = given (synced p w cycle) cycle (byte (value_of (synced p w cycle).moving cycle)) area
performed p w (call.Write value) cycle area = given (worked p w cycle (λ m. written m value cycle)) cycle none area

-- a call answered: turned away with its number, or performed
unfoldable pub answered : Passage → Watchdog → Call → ℕ → List ℕ → Told
answered p w c cycle area = cond (eqb (refusal_of w c cycle) 0) (performed p w c cycle area) (turned (refusal_of w c cycle) w area)

-- what a function without an area promises: the call's outcome or refusal, and whatever the area, it stays as it is
abbrev pub Answers : Watchdog → Call → ℕ → Result Outcome Refusal → Type 0
Answers w c cycle r = (area : List ℕ) → Tells (answered ticks w c cycle area) w r area
