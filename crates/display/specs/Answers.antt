-- A call's answer as bytes (docs/SCRIPT.md, "Answers, a line for each command").
use Rattle.std.specs.Prelude.{ℕ, cond, List, [], ◌∷◌, ◌++◌, eqb, take}
use Rattle.figures.specs.Figures.{text, number}
use Rattle.page.specs.Page.{pair}
use Rattle.counter.specs.Next.{next_of}
use Rattle.counter.specs.declared.next.Next.{Next}
use Rattle.counter.specs.declared.next.Next.TheVariants as next
use Rattle.answers.specs.declared.Answer.{Answer}
use Rattle.answers.specs.declared.Answer.TheVariants as answer
use Rattle.answers.specs.declared.Outcome.{Outcome}

-- bytes in hexadecimal
unfoldable pub hexes : List ℕ → List ℕ
hexes [] = []
hexes (b ∷ bs) = pair b ++ hexes bs

-- a label and the bytes written, or `-`
unfoldable pub bytes_of : List ℕ → List ℕ → ℕ → List ℕ
bytes_of label area written = label ++ cond (eqb written 0) (text "-") (hexes (take written area))

-- "bytes=B records=HEX": the B bytes written
unfoldable pub records_of : List ℕ → ℕ → List ℕ
records_of area written = (text " bytes=" ++ number written) ++ bytes_of (text " records=") area written

-- a label and a next event's cycle, or none
unfoldable pub cycle_of : List ℕ → Next → List ℕ
cycle_of label (next.At cycle flags) = label ++ number cycle.0
cycle_of label next.Never = label ++ text "none"

-- a label and the flags that its tick will raise, or `-`
unfoldable pub flags_of : List ℕ → Next → List ℕ
flags_of label (next.At cycle flags) = label ++ pair flags
flags_of label next.Never = label ++ text "-"

-- "next=N flags=FF"
abbrev pub event_of : Next → List ℕ
event_of n = cycle_of (text " next=") n ++ flags_of (text " flags=") n

-- what a call leaves: its timer's next event, and the bytes written
unfoldable pub left_by : Outcome → List ℕ → List ℕ
left_by o area = event_of (next_of o.timer) ++ records_of area o.written

-- "refused N", "ok value=VV", "paused cycle=N"
unfoldable pub said_of : Answer → List ℕ
said_of (answer.Refused n) = text "refused " ++ number n
said_of answer.Done = text "ok value=-"
said_of (answer.Value v) = text "ok value=" ++ pair v
said_of (answer.Next e) = text "ok value=-"
said_of (answer.Reached f) = text "ok value=-"
said_of (answer.Paused cycle f) = text "paused cycle=" ++ number cycle.0

-- what follows it: nothing after a refusal
unfoldable pub unless_refused : Answer → List ℕ → List ℕ
unless_refused (answer.Refused n) left = []
unless_refused answer.Done left = left
unless_refused (answer.Value v) left = left
unless_refused (answer.Next e) left = left
unless_refused (answer.Reached f) left = left
unless_refused (answer.Paused cycle f) left = left

-- the line of a call
abbrev pub answer_of : Outcome → List ℕ → List ℕ
answer_of o area = said_of o.answer ++ unless_refused o.answer (left_by o area)
