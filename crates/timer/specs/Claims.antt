-- What is claimed of the timer: the demands as theorems. Proofs stand apart, in proofs/.
use Rattle.std.specs.Prelude.{ℕ, suc, ◌+◌, ◌-◌, ◌%◌, ◌≤◌, ◌<◌, Bool, true, false, cond, ◌&&◌, ◌||◌, List, [], ◌∷◌, ◌≡◌, eqb, length}
use Rattle.config.specs.declared.Config.{Config}
use Rattle.config.specs.Config.{accepted}
use Rattle.counter.specs.declared.next.Next.TheVariants.{At}
use Rattle.counter.specs.declared.state.Timer.{Timer}
use Rattle.time.specs.declared.units.Cycle.{Cycle}
use Rattle.time.specs.Units.{ticks_at, cycle_at}
use Rattle.wave.specs.declared.kinds.Wave.{Wave}
use Rattle.wave.specs.Count.{falls, counted}
use Rattle.tick.specs.declared.setting.Moving.{Moving}
use Rattle.tick.specs.Tick.{tick}
use Rattle.counter.specs.Next.{next_at}
use Rattle.counter.specs.Fresh.{fresh_of}
use Rattle.counter.specs.Modes.{stop, clock_at, mode_of, wave_of, prescaler_of, running_of}
use Rattle.passage.specs.Passage.{Passage, ticks, events}
use Rattle.counter.specs.Passage.{start}
use Rattle.counter.specs.Setting.{setting_of}
use Rattle.counter.specs.Valid.{Valid}
use Rattle.timer.specs.declared.calls.Call.{Call}
use Rattle.timer.specs.declared.calls.Call.TheVariants as call
use Rattle.answers.specs.Answers.{event, Told}
use Rattle.timer.specs.Calls.{answered, placed, prescales, refusal_of}

-- a call with its cycle and its area
pub record Request : Type 0 where
  pub call : Call
  pub cycle : ℕ
  pub area : List ℕ

-- a request answered, by a passage of time
abbrev pub told : Passage → Timer → Request → Told
told p t q = answered p t q.call q.cycle q.area

-- the outcomes of a list of requests, each on the timer as the last one left it; every outcome has the whole timer after it
unfoldable pub outcomes : Passage → Timer → List Request → List Told
outcomes p t [] = []
outcomes p t (q ∷ qs) = told p t q ∷ outcomes p (told p t q).timer qs

-- the timer after a list of requests
unfoldable pub last : Passage → Timer → List Request → Timer
last p t [] = t
last p t (q ∷ qs) = last p (told p t q).timer qs

-- Demand 1, what the calls keep: every call leaves a valid timer valid (the fresh timer of an accepted configuration is: `FreshIsValid` of counter)
abbrev pub CallKeeps : Type 0
CallKeeps = (t : Timer) (q : Request) → Valid t → Valid (told ticks t q).timer

-- Demand 3. Alike: for every accepted configuration and every list of calls, refused ones among them, the counter that skips and the plain
-- counter give the same outcomes (refusal or answer, value, bytes, paused cycle, records in order, every area byte) and the same timer, its odometer too
pub record Same (t : Timer) (qs : List Request) : Type 0 where
  pub outcomes : outcomes events t qs ≡ outcomes ticks t qs
  pub last : last events t qs ≡ last ticks t qs

-- one theorem over the list
abbrev pub Alike : Type 0
Alike = (c : Config) → accepted c ≡ true → (qs : List Request) → Same (fresh_of c) qs

-- of every timer that a list of calls makes of a fresh one
abbrev pub Always : (Timer → Type 0) → Type 0
Always P = (c : Config) → accepted c ≡ true → (qs : List Request) → P (last ticks (fresh_of c) qs)

-- Held: after any list, a counter held by sleep, power reduction or TSM, or whose clock is stopped, has its count moved only by a TCNT write or a reset
unfoldable pub sets_count : Timer → Call → Bool
sets_count t (call.Write address value) = eqb (placed t address) 0
sets_count t call.Reset = true
sets_count t call.Advance = false
sets_count t call.Next = false
sets_count t (call.Read address) = false
sets_count t (call.Peek address) = false
sets_count t call.Tifr = false
sets_count t call.Timsk = false
sets_count t (call.WriteTifr ones) = false
sets_count t (call.WriteTimsk mask) = false
sets_count t (call.Edge pin level) = false
sets_count t (call.Output level) = false
sets_count t (call.Route level) = false
sets_count t (call.Sleep mode) = false
sets_count t call.Wake = false
sets_count t (call.Reduce mask) = false
sets_count t (call.Tsm level) = false
sets_count t (call.Prescale mask) = false

-- of a timer, by no other call, whatever its arguments
abbrev pub HeldOf : Timer → Type 0
HeldOf t = (q : Request) →
    (t.halts.asleep || t.halts.reduced || t.halts.tsm) || eqb (clock_at t.config.clocks (t.registers.tccrb % 8)) stop ≡ true → sets_count t q.call ≡ false → (told ticks t q).timer.counter.count ≡ t.counter.count

-- after any list
abbrev pub Held : Type 0
Held = Always HeldOf

-- the cycle of the n-th prescaled tick after the sync cycle
abbrev pub tick_cycle : Timer → ℕ → ℕ
tick_cycle t n = cycle_at (prescaler_of t) (ticks_at (prescaler_of t) t.clock.sync.0 + n)

-- the plain counter n single ticks after the sync cycle
abbrev pub plain_after : Timer → ℕ → Moving
plain_after t n = (ticks (setting_of t) (prescaler_of t) (λ k. true) n (start t)).moving

-- the count one step on, one more on the odometer, no match blocked; nothing else moves
abbrev pub stepped_on : Wave → Moving → Moving
stepped_on w m = record {
  counter = record {
    count = cond (falls w m.counter) (m.counter.count - 1) (m.counter.count + 1);
    direction = m.counter.direction;
    blocked = false;
    odometer = counted m.counter.odometer 1;
  };
  ocr = m.ocr;
  oc = m.oc;
  drives = m.drives;
  tifr = m.tifr;
}

-- Quiet: of a timer, after n single ticks, a prescaled tick whose cycle lies before the cycle that next answers only steps the count, adds one to the odometer and lifts a blocked match: no record
abbrev pub QuietOf : Timer → Type 0
QuietOf t = (cycle : ℕ) (area : List ℕ) (at : Cycle) (flags n : ℕ)
    → (told ticks t (record { call = call.Next; cycle = cycle; area = area })).values ≡ event (At at flags) → tick_cycle t (suc n) < at.0
    → tick (setting_of t) (plain_after t n) ≡ record { moving = stepped_on (wave_of t (mode_of t)) (plain_after t n); log = [] }

-- after any list
abbrev pub Quiet : Type 0
Quiet = Always QuietOf

-- Progress: an area of 110 bytes always gets one event tick done
abbrev pub Progress : Type 0
Progress = (c : Config) → accepted c ≡ true → (qs : List Request) (cycle : ℕ) (area : List ℕ) → let t = last ticks (fresh_of c) qs in
    running_of t ≡ true → refusal_of t call.Advance cycle ≡ 0 → next_at t ≤ cycle → 110 ≤ length area
    → next_at t ≤ (told ticks t (record { call = call.Advance; cycle = cycle; area = area })).timer.clock.sync.0

-- the origin after an accepted call: a reset, own prescaler reset or TSM release makes it its cycle, a wake adds the cycles that its sleep halted, every other call leaves it
unfoldable pub origin_of : Timer → Call → ℕ → ℕ
origin_of t call.Reset cycle = cycle
origin_of t (call.Prescale mask) cycle = cond (prescales t mask) cycle t.clock.origin.0
origin_of t (call.Tsm level) cycle = cond (t.halts.tsm && eqb level 0) cycle t.clock.origin.0
origin_of t call.Wake cycle = cond t.halts.asleep (t.clock.origin.0 + (cycle - t.halts.since.0)) t.clock.origin.0
origin_of t call.Advance cycle = t.clock.origin.0
origin_of t call.Next cycle = t.clock.origin.0
origin_of t (call.Read address) cycle = t.clock.origin.0
origin_of t (call.Peek address) cycle = t.clock.origin.0
origin_of t (call.Write address value) cycle = t.clock.origin.0
origin_of t call.Tifr cycle = t.clock.origin.0
origin_of t call.Timsk cycle = t.clock.origin.0
origin_of t (call.WriteTifr ones) cycle = t.clock.origin.0
origin_of t (call.WriteTimsk mask) cycle = t.clock.origin.0
origin_of t (call.Edge pin level) cycle = t.clock.origin.0
origin_of t (call.Output level) cycle = t.clock.origin.0
origin_of t (call.Route level) cycle = t.clock.origin.0
origin_of t (call.Sleep mode) cycle = t.clock.origin.0
origin_of t (call.Reduce mask) cycle = t.clock.origin.0

-- Origin: of any timer and any call that is not turned away
abbrev pub Origin : Type 0
Origin = (t : Timer) (q : Request) → (told ticks t q).number ≡ 0 → (told ticks t q).timer.clock.origin.0 ≡ origin_of t q.call q.cycle
