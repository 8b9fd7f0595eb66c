-- What a call answers, in 01's terms.
-- The sheet: nothing of its own, answers are 01's.
use Rattle.std.specs.Prelude.{ℕ, cond, List, ◌++◌, ◌≡◌, leb, length, take, drop}
use Rattle.counter.specs.declared.advance.Logged.{Logged}
use Rattle.counter.specs.declared.next.Next.{Next}
use Rattle.counter.specs.declared.state.Timer.{Timer}
use Rattle.counter.specs.Halts.{latest_to}
use Rattle.counter.specs.Valid.{Valid}
use Rattle.answers.specs.declared.Answer.{Answer}
use Rattle.answers.specs.declared.Answer.TheVariants as answer
use Rattle.answers.specs.declared.Outcome.{Outcome}

-- the values that a call answers; a refusal has a case of its own, so that it is none of an accepted call's. An advance answers the flags of the then next event (02, 2.2)
pub data Values : Type 0 where
  refused : Values
  none : Values
  byte : ℕ → Values
  event : Next → Values
  reached : ℕ → Values
  paused : ℕ → ℕ → Values

-- the timer after a call, 01's number (0 where it is accepted), its values, the bytes written, and the whole area
pub record Told : Type 0 where
  pub timer : Timer
  pub number : ℕ
  pub values : Values
  pub written : ℕ
  pub area : List ℕ

-- a refusal returns its number only, and leaves timer and area as they were
abbrev pub turned : ℕ → Timer → List ℕ → Told
turned n t area = record { timer = t; number = n; values = refused; written = 0; area = area }

-- every call writes its records from the start of the area and leaves the rest as it was
abbrev pub given : Timer → Values → List ℕ → List ℕ → Told
given t v bytes area = record { timer = t; number = 0; values = v; written = length bytes; area = bytes ++ drop (length bytes) area }

-- 8 where the records exceed the area
abbrev pub fitted : Timer → Timer → Values → List ℕ → List ℕ → Told
fitted was t v bytes area = cond (leb (length bytes) (length area)) (given t v bytes area) (turned 8 was area)

-- 01's number of each case of the code's answer
abbrev pub number_of : Answer → ℕ
number_of (answer.Refused n) = n
number_of answer.Done = 0
number_of (answer.Value v) = 0
number_of (answer.Next n) = 0
number_of (answer.Reached f) = 0
number_of (answer.Paused c f) = 0

-- the values of each case of the code's answer
abbrev pub values_of : Answer → Values
values_of (answer.Refused n) = refused
values_of answer.Done = none
values_of (answer.Value v) = byte v
values_of (answer.Next n) = event n
values_of (answer.Reached f) = reached f
values_of (answer.Paused c f) = paused c.0 f

-- the answer that a number and values say
abbrev pub answer_of : ℕ → Values → Answer
answer_of n refused = answer.Refused n
answer_of n none = answer.Done
answer_of n (byte v) = answer.Value v
answer_of n (event e) = answer.Next e
answer_of n (reached f) = answer.Reached f
answer_of n (paused c f) = answer.Paused (record { 0 = c }) f

-- Determined: number and values determine the answer, its case too
abbrev pub Determined : Type 0
Determined = (a : Answer) → answer_of (number_of a) (values_of a) ≡ a

-- what the code's outcome says, and every byte of the area; the timer that comes out is valid
pub record Tells (x : Told) (r : Outcome) (after : List ℕ) : Type 0 where
  pub timer : r.timer ≡ x.timer
  pub number : number_of r.answer ≡ x.number
  pub values : values_of r.answer ≡ x.values
  pub written : r.written ≡ x.written
  pub area : after ≡ x.area
  pub valid : Valid r.timer

-- what the code makes of a call's work and its log: accepted if the records fit, else refused with 8
pub record Filed (was : Timer) (l : Logged) (cycle : ℕ) (before : List ℕ) (r : Outcome) (after : List ℕ) : Type 0 where
  pub outcome : r ≡ cond (leb l.log.len (length before)) (record { answer = answer.Done; timer = latest_to l.timer cycle; written = l.log.len }) (record { answer = answer.Refused 8; timer = was; written = 0 })
  pub area : after ≡ cond (leb l.log.len (length before)) (take l.log.len l.log.bytes ++ drop l.log.len before) before
