-- What is claimed of the list of writes (02, 2.1): statements, proved in proofs/.
use Rattle.std.specs.Prelude.{ℕ, ◌+◌, ◌/◌, cond, List, [], ◌∷◌, ◌++◌, ◌≡◌, take, drop, replicate}
use Rattle.counter.specs.declared.state.Timer.{Timer}
use Rattle.counter.specs.Fresh.{fresh_of}
use Rattle.counter.specs.Valid.{Valid}
use Rattle.passage.specs.Passage.{Passage, ticks, events}
use Rattle.answers.specs.Answers.{Values, none, paused, Told}
use Rattle.timer.specs.declared.calls.Call.{Call}
use Rattle.timer.specs.declared.calls.Call.TheVariants as call
use Rattle.m328p.specs.Timers.{timer0}
use Rattle.timer.specs.Readings.{flags, trigger}
use Rattle.timer.specs.Claims.{Request, told, outcomes, last}
use Rattle.items.specs.declared.Item.{Item}
use Rattle.writes.specs.Writes.{stopping, Listed, listed, listing}

-- Lists alike: by the counter that skips and by the plain counter the list tells the same, items, timer, reason, bytes and area
abbrev pub ListsAlike : Type 0
ListsAlike = (t : Timer) (list area : List ℕ) → Valid t → listing events t list area ≡ listing ticks t list area

-- The empty list changes nothing, and tells 0 items, 0 bytes, all done
abbrev pub EmptyList : Type 0
EmptyList = (p : Passage) (t : Timer) (area : List ℕ) → listing p t [] area ≡ record { done = 0; told = record { timer = t; number = 0; values = none; written = 0; area = area } }

-- ---- Single calls: state and records equal those of the single calls

-- a call with its cycle
pub record Single : Type 0 where
  pub call : Call
  pub cycle : ℕ

-- for each item an advance to its cycle and then the write
unfoldable pub singles : List Item → List Single
singles [] = []
singles (i ∷ is) = record { call = call.Advance; cycle = i.cycle.0 } ∷ record { call = call.Write i.address i.value; cycle = i.cycle.0 } ∷ singles is

-- a call in an area
abbrev pub within : Single → List ℕ → Request
within q area = record { call = q.call; cycle = q.cycle; area = area }

-- the requests that calls make, each in what the one before left of the area, up to the first that pauses or is turned away
unfoldable pub requests : Passage → Timer → List Single → List ℕ → List Request
requests p t [] area = []
requests p t (q ∷ qs) area =
    within q area
    ∷ cond (stopping (told p t (within q area)).values) []
    (requests p (told p t (within q area)).timer qs (drop (told p t (within q area)).written (told p t (within q area)).area))

-- the records of outcomes, one after the other
unfoldable pub records_in : List Told → List ℕ
records_in [] = []
records_in (x ∷ xs) = take x.written x.area ++ records_in xs

-- how many of them do not stop
unfoldable pub going : List Told → ℕ
going [] = 0
going (x ∷ xs) = cond (stopping x.values) 0 1 + going xs

-- the number of the one that stops, 0 for none
unfoldable pub number_in : List Told → ℕ
number_in [] = 0
number_in (x ∷ xs) = cond (stopping x.values) x.number (number_in xs)

-- its values: the sync cycle of one that pauses, or that it is turned away
unfoldable pub values_in : List Told → Values
values_in [] = none
values_in (x ∷ xs) = cond (stopping x.values) x.values (values_in xs)

-- timer, records, number and pause cycle are those of the single calls, and the rest of the area is as it was
pub record AsSingles (p : Passage) (t : Timer) (qs : List Request) (area : List ℕ) (x : Told) : Type 0 where
  pub timer : x.timer ≡ last p t qs
  pub number : x.number ≡ number_in (outcomes p t qs)
  pub values : x.values ≡ values_in (outcomes p t qs)
  pub records : take x.written x.area ≡ records_in (outcomes p t qs)
  pub rest : drop x.written x.area ≡ drop x.written area

-- and two calls that do not stop are one item done
pub record Matches (p : Passage) (t : Timer) (qs : List Request) (area : List ℕ) (x : Listed) : Type 0 where
  pub told : AsSingles p t qs area x.told
  pub done : x.done ≡ going (outcomes p t qs) / 2

-- for every list of items, the empty one too
abbrev pub SingleCalls : Type 0
SingleCalls = (p : Passage) (t : Timer) (is : List Item) (area : List ℕ) → Matches p t (requests p t (singles is) area) area (listed p t is area)

-- ---- A reading: two writes to Timer0, TCCR0B = 01 at cycle 0 and OCR0A = 05 at cycle 1, whose advance has T1's records (01)

-- 0001000101 00000001 and cycle 0; 0001000111 00000101 and cycle 1
abbrev pub two_writes : List ℕ
two_writes = (0x11 ∷ 0x40 ∷ 0x40 ∷ 0 ∷ 0 ∷ 0 ∷ 0 ∷ 0 ∷ 0 ∷ 0 ∷ []) ++ (0x11 ∷ 0xC1 ∷ 0x40 ∷ 0 ∷ 0 ∷ 0 ∷ 0 ∷ 0 ∷ 0 ∷ 1 ∷ [])

-- what a list tells, but the timer
pub record Reads : Type 0 where
  pub done : ℕ
  pub number : ℕ
  pub values : Values
  pub bytes : List ℕ

-- of a fresh Timer0, with an area of so many bytes
abbrev pub read_of : ℕ → List ℕ → Reads
read_of room list =
    let x = listing ticks (fresh_of timer0) list (replicate room 0) in
    record { done = x.done; number = x.told.number; values = x.told.values; bytes = take x.told.written x.told.area }

-- both are done with 30 bytes of area; with 29 the second's advance pauses at cycle 0
pub record ListReading : Type 0 where
  pub fits : read_of 30 two_writes ≡ record { done = 2; number = 0; values = none; bytes = flags 0 1 6 ++ trigger 0 1 0x10 ++ trigger 0 1 0x20 }
  pub pauses : read_of 29 two_writes ≡ record { done = 1; number = 0; values = paused 0 6; bytes = [] }
