-- How long a timer's answers may be, for every timer, outcome and area.
use Rattle.std.specs.Prelude.{ℕ, ◌+◌, ◌*◌, ◌≤◌, List, length}
use Rattle.answers.specs.declared.Outcome.{Outcome}
use Rattle.counter.specs.declared.state.Timer.{Timer}
use Rattle.display.specs.Answers.{answer_of}
use Rattle.display.specs.States.{state_of, distance_text}

-- the line of a call: two digits for each byte of the area, and so many more at most
abbrev pub ShortAnswer : Type 0
ShortAnswer = (o : Outcome) (area : List ℕ) → length (answer_of o area) ≤ 105 + 2 * length area

-- the line of `state`
abbrev pub ShortState : Type 0
ShortState = (t : Timer) → length (state_of t) ≤ 597

-- the line of `distance`
abbrev pub ShortDistance : Type 0
ShortDistance = (t : Timer) → length (distance_text t) ≤ 72
