-- What reaches all three timers of the board (02, 2.6), of one of them: through its own `answered`, by a passage of time.
use Rattle.std.specs.Prelude.{ℕ, min, cond, List, eqb}
use Rattle.counter.specs.declared.state.Timer.{Timer}
use Rattle.passage.specs.Passage.{Passage}
use Rattle.answers.specs.Answers.{Told, turned}
use Rattle.timer.specs.declared.calls.Call.TheVariants as call
use Rattle.timer.specs.Calls.{answered}
use Rattle.aims.specs.declared.Cast.{Cast}
use Rattle.aims.specs.declared.Cast.TheVariants as cast

-- a timer's answer, turned away as it was before
abbrev pub or_back : Timer → List ℕ → Told → Told
or_back t area x = cond (eqb x.number 0) x (turned x.number t area)

-- the prescaler resets, once TSM was taken
unfoldable pub prescaled : Passage → Timer → ℕ → ℕ → List ℕ → Told → Told
prescaled p t mask cycle area x = cond (eqb x.number 0) (or_back t area (answered p x.timer (call.Prescale mask) cycle x.area)) x

-- what each of the three answers, by calls of its own
unfoldable pub reached : Passage → Timer → Cast → ℕ → List ℕ → Told
reached p t (cast.Sleep mode) cycle area = answered p t (call.Sleep mode) cycle area
reached p t cast.Wake cycle area = answered p t call.Wake cycle area
reached p t (cast.Reduce value) cycle area = answered p t (call.Reduce value) cycle area
reached p t (cast.Prescale mask) cycle area = answered p t (call.Prescale mask) cycle area
reached p t (cast.Synchronise level mask) cycle area = prescaled p t mask cycle area (answered p t (call.Tsm level) cycle area)

-- the lower of two numbers, where 0 is none
unfoldable pub lowest : ℕ → ℕ → ℕ
lowest a b = cond (eqb a 0) b (cond (eqb b 0) a (min a b))
