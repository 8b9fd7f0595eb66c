-- What is announced of the next event, cycle and flags (02, 2.2): statements, proved in proofs/.
use Rattle.std.specs.Prelude.{ℕ, ◌/◌, ◌≤◌, ◌<◌, Bool, true, false, cond, not, List, [], ◌∷◌, ◌++◌, ◌⊎◌, ◌≡◌, eqb, take}
use Rattle.std.specs.Bool.{beq}
use Rattle.records.specs.declared.Entry.{Entry}
use Rattle.records.specs.Records.{records_of}
use Rattle.time.specs.declared.units.Cycle.{Cycle}
use Rattle.wave.specs.Distance.{gap}
use Rattle.tick.specs.Skip.{linear}
use Rattle.tick.specs.Tick.{tick}
use Rattle.passage.specs.Passage.{ticks}
use Rattle.counter.specs.declared.next.Next.{Next}
use Rattle.counter.specs.declared.next.Next.TheVariants.{At, Never}
use Rattle.counter.specs.declared.state.Timer.{Timer}
use Rattle.counter.specs.Halts.{halting}
use Rattle.counter.specs.Modes.{mode_of, wave_of}
use Rattle.counter.specs.Next.{next_of}
use Rattle.counter.specs.Setting.{setting_of, moving_of}
use Rattle.answers.specs.Answers.{Values, refused, none, byte, event, reached, paused, Told}
use Rattle.timer.specs.declared.calls.Call.{Call}
use Rattle.timer.specs.declared.calls.Call.TheVariants as call
use Rattle.timer.specs.Calls.{reduces, changes, prescales}
use Rattle.timer.specs.Claims.{Request, told, Always}

-- ---- what calls leave alone

-- a call that touches the next event, if it is accepted: a register write, a halt, the own prescaler's reset, a reset (02, 2.2)
unfoldable pub touches : Timer → Call → Bool
touches t (call.Write address value) = true
touches t (call.Sleep mode) = halting t mode
touches t (call.Reduce mask) = not (beq (reduces t mask) t.halts.reduced)
touches t (call.Tsm level) = changes t level
touches t (call.Prescale mask) = prescales t mask
touches t call.Reset = true
touches t call.Advance = false
touches t call.Next = false
touches t (call.Read address) = false
touches t (call.Peek address) = false
touches t call.Tifr = false
touches t call.Timsk = false
touches t (call.WriteTifr ones) = false
touches t (call.WriteTimsk mask) = false
touches t (call.Edge pin level) = false
touches t (call.Output level) = false
touches t (call.Route level) = false
touches t call.Wake = false

-- it is turned away, or touches nothing
abbrev pub Untouched : Timer → Request → Type 0
Untouched t q = ((told ticks t q).number ≡ 0 → ⊥) ⊎ (touches t q.call ≡ false)

-- calls that leave the event of a cycle alone and have not worked its tick, from one timer to another
pub data Waits : ℕ → Timer → List Request → Timer → Type 0 where
  still : (n : ℕ) (t : Timer) → Waits n t [] t
  then : (n : ℕ) (t : Timer) (q : Request) (qs : List Request) (u : Timer) → Untouched t q → (told ticks t q).timer.clock.sync.0 < n → Waits n (told ticks t q).timer qs u → Waits n t (q ∷ qs) u

-- ---- what the event's tick raises

-- the flags of a next event, 0 where there is none
abbrev pub flags_of : Next → ℕ
flags_of (At at flags) = flags
flags_of Never = 0

-- the TIFR bits in the flag entries of a log: kind 1, the bits raised in its high byte (01, "The record area")
unfoldable pub raised_in : List Entry → List ℕ
raised_in [] = []
raised_in (e ∷ es) = cond (eqb e.kind 1) ((e.body / 256) ∷ []) [] ++ raised_in es

-- the entries of the next event's tick
abbrev pub event_log : Timer → List Entry
event_log t = (tick (setting_of t) (linear (wave_of t (mode_of t)) (gap (wave_of t (mode_of t)) t.counter t.ocr) (moving_of t))).log

-- an advance's records begin with those of the event's tick, which has a flag record of these flags, and none exactly where they are 0
pub record Raises (t : Timer) (cycle flags : ℕ) (x : Told) : Type 0 where
  pub rest : List ℕ
  pub bytes : take x.written x.area ≡ records_of cycle (event_log t) ++ rest
  pub raised : raised_in (event_log t) ≡ cond (eqb flags 0) [] (flags ∷ [])

-- the event is announced still, cycle and flags, and an advance that comes to its cycle has worked its tick
pub record Stands (t : Timer) (at : Cycle) (flags : ℕ) : Type 0 where
  pub next : next_of t ≡ At at flags
  pub raises : (cycle : ℕ) (area : List ℕ) → let x = told ticks t (record { call = call.Advance; cycle = cycle; area = area }) in at.0 ≤ x.timer.clock.sync.0 → Raises t at.0 flags x

-- what an answer says of the next event: next all of it; an advance, done or paused, its flags, 0 where there is none (02, 2.2)
abbrev pub Says : Values → Next → Type 0
Says (event m) n = m ≡ n
Says (reached flags) n = flags ≡ flags_of n
Says (paused cycle flags) n = flags ≡ flags_of n
Says refused n = Unit {0}
Says none n = Unit {0}
Says (byte v) n = Unit {0}

-- what an answer says is so of the timer that the call leaves; and that timer's next event stays so through any calls that are turned away or are no register write,
-- halt, prescaler reset or reset, until its tick is worked; and that tick raises exactly the flags that were announced
pub record Announces (x : Told) : Type 0 where
  pub says : Says x.values (next_of x.timer)
  pub stays : (at : Cycle) (flags : ℕ) (qs : List Request) (u : Timer) → next_of x.timer ≡ At at flags → Waits at.0 x.timer qs u → Stands u at flags

-- Announced: of a timer, every call
abbrev pub AnnouncedOf : Timer → Type 0
AnnouncedOf t = (q : Request) → Announces (told ticks t q)

-- after any list
abbrev pub Announced : Type 0
Announced = Always AnnouncedOf
