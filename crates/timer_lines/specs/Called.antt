-- The answer of a call's line (docs/SCRIPT.md, "Answers"), and the timer that it leaves.
use Rattle.std.specs.Prelude.{ℕ, cond, List, ◌++◌, ◌≡◌, nat_lt, length, drop, Option, Some, None, IfSome, Result, Ok, Err}
use Rattle.figures.specs.Figures.{text, number}
use Rattle.room.specs.Room.{filled, changed_at}
use Rattle.page.specs.Page.{Puts, unreadable_of}
use Rattle.passage.specs.Passage.{ticks}
use Rattle.counter.specs.Valid.{Valid}
use Rattle.counter.specs.declared.state.Timer.{Timer}
use Rattle.answers.specs.Answers.{Told, answer_of}
use Rattle.answers.specs.declared.Outcome.{Outcome}
use Rattle.timer.specs.Calls.{answered}
use Rattle.display.specs.Answers.{answer_of as shownOf}
use Rattle.words.specs.declared.Unreadable.{Unreadable}
use Rattle.timer_lines.specs.declared.asked.Asked.{Asked}
use Rattle.timer_lines.specs.declared.asked.Name.{Name}
use Rattle.timer_lines.specs.declared.called.Left.{Left}
use Rattle.timer_lines.specs.Asked.{asked_of}

-- what a line leaves: the timer, if there is one, the answer's bytes, the area, and how many of its bytes are records
pub record Lined : Type 0 where
  pub timer : Option Timer
  pub bytes : List ℕ
  pub area : List ℕ
  pub written : ℕ

-- a line that changes nothing
abbrev pub saying : Option Timer → List ℕ → List ℕ → Lined
saying t area bytes = record { timer = t; bytes = bytes; area = area; written = 0 }

-- "`area changed at I` in place of the answer" where the rest of the area does not hold A5
unfoldable pub told_of : Outcome → List ℕ → List ℕ
told_of o area = cond (nat_lt (changed_at area o.written) (length area)) (text "area changed at " ++ number (changed_at area o.written)) (shownOf o area)

-- the outcome of a call as it is told
abbrev pub outcome_of : Told → Outcome
outcome_of x = record { answer = answer_of x.number x.values; timer = x.timer; written = x.written }

-- the call answered, on an area of so many bytes
abbrev pub answered_by : Timer → Asked → ℕ → Told
answered_by t q size = answered ticks t q.call q.cycle (filled size)

-- the timer that it leaves, and its answer
abbrev pub left_by : Told → Lined
left_by x = record { timer = Some x.timer; bytes = told_of (outcome_of x) x.area; area = x.area; written = x.written }

abbrev pub called_of : Timer → Asked → ℕ → Lined
called_of t q size = left_by (answered_by t q size)

-- a line's answer with what lies behind the area that its call had
abbrev pub behind : Lined → List ℕ → Lined
behind x rest = record { timer = x.timer; bytes = x.bytes; area = x.area ++ rest; written = x.written }

-- "`no timer`: a call where no configuration was accepted before it"
unfoldable pub heard_of : Option Timer → ℕ → Result Asked Unreadable → List ℕ → Lined
heard_of t nth (Err why) area = saying t area (unreadable_of nth why)
heard_of None nth (Ok q) area = saying None area (text "no timer")
heard_of (Some t) nth (Ok q) area = behind (called_of t q q.size) (drop q.size area)

-- the line of a call, from the place after its name
abbrev pub call_line : Option Timer → ℕ → List ℕ → ℕ → Name → List ℕ → Lined
call_line t nth line at name area = heard_of t nth (asked_of line at name) area

-- what the code leaves is what the line's definition says; its timer is valid
pub record Leaves (x : Lined) (old new after : List ℕ) (r : Left) : Type 0 where
  pub timer : r.timer ≡ x.timer
  pub written : r.written ≡ x.written
  pub area : after ≡ x.area
  pub puts : Puts old new x.bytes
  pub valid : IfSome r.timer Valid
