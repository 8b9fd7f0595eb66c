-- How long the parts of a watchdog's answers are.
use Prim.Native.Nat.{ℕ, zero, suc, ◌+◌, ◌*◌, ◌≤◌}
use native.Mathlib.Omega.{arith}
use mathlib.Core.Bool.{Bool, true}
use mathlib.Core.List.{List}
use mathlib.Core.Path.{◌≡◌, refl}
use borrow.Author.Tests.{le-leb, leb-true}
use lib.Dec.{eqb, leb, ltb}
use lib.ListN.{length, length-append, length-drop}
use Rattle.figures.proofs.Writing.{number_short}
use Rattle.tick.proofs.Choices.{cond-all}
use Rattle.page.proofs.Lengths.{Upto, said, numbered, either, codes-length, pair-length, flag-length}
use Rattle.display.proofs.Lengths.{records-short}
use Rattle.room.specs.Room.{changed_at}
use Rattle.time.specs.declared.units.Cycle.{Cycle}
use Rattle.std.specs.Prelude.{Option, Some, None}
use Rattle.oscillator.specs.declared.state.Watchdog.{Watchdog}
use Rattle.oscillator.specs.Oscillator.{Run, ticks, one, due, start, run_of, next_of as eventAfter}
use Rattle.oscillator.proofs.Runs.{one-fits}
use Rattle.watchdog.specs.declared.calls.Call.{Call}
use Rattle.watchdog.specs.declared.calls.Call.TheVariants as call
use Rattle.watchdog.specs.Outcome.{Told, Values, refused, none, byte, event, paused}
use Rattle.watchdog.specs.Calls.{refusal_of, advanced, moved, performed, answered}
use Rattle.wdt_lines.specs.Shown.{event_of, left_by, said_of, unless_refused, answer_of, bits_of, state_of}
use Rattle.wdt_lines.specs.Called.{told_of}

-- ---- the area: a call leaves as many bytes as it had

ticks-fit : (fits : ℕ → Bool) (n : ℕ) (r : Run) → fits (length r.bytes) ≡ true → fits (length (ticks fits n r).bytes) ≡ true
unfolding ticks
ticks-fit fits zero r f = f
ticks-fit fits (suc n) r f = ticks-fit fits n (one fits r) (one-fits fits r f)

run_fits : (w : Watchdog) (cycle : ℕ) (area : List ℕ) → length (advanced ticks w cycle area).bytes ≤ length area
unfolding run_of start
run_fits w cycle area = leb-true _ _ (ticks-fit (λ (k : ℕ). leb k (length area)) (due w cycle) (start w) (le-leb 0 (length area) (omega arith)))

performed-area : (w : Watchdog) (c : Call) (cycle : ℕ) (area : List ℕ) → length (performed ticks w c cycle area).area ≡ length area
unfolding performed moved
performed-area w call.Advance cycle area =
    let r = advanced ticks w cycle area in
    simp length-append (omega (arith, run_fits w cycle area, length-drop (length r.bytes) area))
performed-area w call.Next cycle area = refl
performed-area w call.Wdr cycle area = refl
performed-area w call.Serve cycle area = refl
performed-area w call.Read cycle area = refl
performed-area w (call.Write value) cycle area = refl

pub answered-area : (w : Watchdog) (c : Call) (cycle : ℕ) (area : List ℕ) → length (answered ticks w c cycle area).area ≡ length area
unfolding answered
answered-area w c cycle area = cond-all (λ (x : Told). length x.area ≡ length area) (eqb (refusal_of w c cycle) 0) (performed-area w c cycle area) refl

-- ---- what is shown

said-short : (n : ℕ) (v : Values) → length (said_of n v) ≤ 33
unfolding said_of
said-short n refused = numbered _ _ n (omega arith)
said-short n none = said _ (omega arith)
said-short n (byte value) = simp (length-append, codes-length, pair-length) (omega arith)
said-short n (event e) = said _ (omega arith)
said-short n (paused cycle) = numbered _ _ cycle (omega arith)

event-short : (e : Option Cycle) → length (event_of e) ≤ 26
unfolding event_of
event-short (Some cycle) = numbered _ _ cycle.0 (omega arith)
event-short None = said _ (omega arith)

unless-short : (v : Values) (left : List ℕ) → length (unless_refused v left) ≤ length left
unfolding unless_refused
unless-short refused left = omega arith
unless-short none left = omega arith
unless-short (byte value) left = omega arith
unless-short (event e) left = omega arith
unless-short (paused cycle) left = omega arith

left-short : (x : Told) → length (left_by x) ≤ 63 + 2 * length x.area
unfolding left_by
left-short x = simp length-append (omega (arith, event-short (eventAfter x.watchdog), records-short x.area x.written))

answer-short : (x : Told) → length (answer_of x) ≤ 96 + 2 * length x.area
answer-short x = simp length-append (omega (arith, said-short x.number x.values, unless-short x.values (left_by x), left-short x))

pub told-short : (x : Told) → length (told_of x) ≤ 96 + 2 * length x.area
unfolding told_of
told-short x =
    let at = changed_at x.area x.written in
    either (Upto (96 + 2 * length x.area)) (ltb at (length x.area)) (numbered _ _ at (omega arith)) (answer-short x)

bits-short : (w : Watchdog) → length (bits_of w) ≤ 50
unfolding bits_of
bits-short w =
    let h = number_short w.moving.control.wdp in
    simp (length-append, codes-length, flag-length) (omega arith)

pub state-short : (w : Watchdog) → length (state_of w) ≤ 134
unfolding state_of
state-short w =
    let h = number_short w.moving.count in
    let k = bits-short w in
    let l = number_short w.sync.0 in
    let m = number_short w.latest.0 in
    simp (length-append, codes-length) (omega arith)
