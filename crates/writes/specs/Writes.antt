-- A day's register writes in one go (02, 2.1): each item is worked by the single calls, each in what is left of the area.
use Rattle.std.specs.Prelude.{ℕ, ◌+◌, ◌/◌, ◌%◌, Bool, true, false, cond, List, [], ◌∷◌, ◌++◌, ◌≡◌, eqb, length, take, drop}
use Rattle.counter.specs.declared.state.Timer.{Timer}
use Rattle.passage.specs.Passage.{Passage}
use Rattle.answers.specs.declared.Answer.{Answer}
use Rattle.answers.specs.declared.Answer.TheVariants as answer
use Rattle.answers.specs.Answers.{Values, refused, none, byte, event, reached, paused, Told, turned, answer_of, Tells}
use Rattle.timer.specs.declared.calls.Call.TheVariants as call
use Rattle.timer.specs.Calls.{answered}
use Rattle.items.specs.declared.Item.{Item}
use Rattle.writes.specs.declared.Why.{Why}
use Rattle.writes.specs.declared.Why.TheVariants as why
use Rattle.writes.specs.declared.Written.{Written}
use Rattle.items.specs.Items.{items_in}

-- ---- when the list stops

-- the call stops at the first item that pauses or is turned away (02, 2.1)
abbrev pub stopping : Values → Bool
stopping refused = true
stopping none = false
stopping (byte v) = false
stopping (event n) = false
stopping (reached f) = false
stopping (paused c f) = true

-- ---- one item

-- a call's telling, behind so many bytes that the area already holds (02, 2.1)
abbrev pub behind : ℕ → List ℕ → Told → Told
behind n area x = record { timer = x.timer; number = x.number; values = x.values; written = n + x.written; area = take n area ++ x.area }

-- the item's write after its advance, in what is left of the area; none where the advance stops (02, 2.1)
unfoldable pub wrote : Passage → Item → Told → Told
wrote p i a =
    cond (stopping a.values) a
    (behind a.written a.area (answered p a.timer (call.Write i.address i.value) i.cycle.0 (drop a.written a.area)))

-- an item is worked as an advance to its cycle and then the write (02, 2.1)
unfoldable pub worked : Passage → Timer → Item → List ℕ → Told
worked p t i area = wrote p i (answered p t call.Advance i.cycle.0 area)

-- ---- the list

-- the items done, and beside them the timer, why it stopped, the bytes written and the whole area (02, 2.1)
pub record Listed : Type 0 where
  pub done : ℕ
  pub told : Told

-- so many items done, and behind their bytes the rest of the list (02, 2.1)
abbrev pub after : ℕ → ℕ → List ℕ → Listed → Listed
after k n area y = record { done = k + y.done; told = behind n area y.told }

-- item after item up to the first that stops; the items done before it stand, and so does its own advance (02, 2.1)
unfoldable pub listed : Passage → Timer → List Item → List ℕ → Listed
listed p t [] area = record { done = 0; told = record { timer = t; number = 0; values = none; written = 0; area = area } }
listed p t (i ∷ is) area =
    cond (stopping (worked p t i area).values)
    (record { done = 0; told = worked p t i area })
    (after 1 (worked p t i area).written (worked p t i area).area
    (listed p (worked p t i area).timer is (drop (worked p t i area).written (worked p t i area).area)))

-- 12 when the list length is not a multiple of ten, tested before all others and changing nothing (02, 2.1)
unfoldable pub listing : Passage → Timer → List ℕ → List ℕ → Listed
listing p t list area =
    cond (eqb (length list % 10) 0) (listed p t (items_in (length list / 10) list) area) (record { done = 0; told = turned 12 t area })

-- ---- what the code says

-- why a list ends with an answer (02, 2.1)
abbrev pub why_of : Answer → Why
why_of (answer.Refused n) = why.Refused n
why_of answer.Done = why.AllDone
why_of (answer.Value v) = why.AllDone
why_of (answer.Next n) = why.AllDone
why_of (answer.Reached f) = why.AllDone
why_of (answer.Paused c f) = why.Paused c f

-- the answer of each case of the code's reason, whose number and values are 01's (02, 2.1)
abbrev pub reason_of : Why → Answer
reason_of why.AllDone = answer.Done
reason_of (why.Paused c f) = answer.Paused c f
reason_of (why.Refused n) = answer.Refused n

-- the items done, and of timer, reason, bytes written and every byte of the area what a call tells; the timer that comes out is valid
pub record Lists (x : Listed) (r : Written) (area : List ℕ) : Type 0 where
  pub done : r.done ≡ x.done
  pub why : r.why ≡ why_of (answer_of x.told.number x.told.values)
  pub told : Tells x.told (record { answer = reason_of r.why; timer = r.timer; written = r.written }) area
