-- How far a late edge moves the capture, in ticks with a sign (02, 2.9).
use Rattle.std.specs.Prelude.{ℕ, ◌-◌, ◌*◌, max, min, cond, not, ◌&&◌, ◌≡◌, eqb, leb, ℤ, pos, ◌-ℤ◌}
use Rattle.time.specs.Units.{ticks_at}
use Rattle.counter.specs.declared.state.Timer.{Timer}
use Rattle.counter.specs.Modes.{divisor_of, prescaler_of, running_of}
use Rattle.answers.specs.Refusals.{late}
use Rattle.shift.specs.declared.Moved.{Moved}
use Rattle.shift.specs.declared.Moved.TheVariants.{Refused, By}

-- how far two numbers lie apart
abbrev pub apart : ℕ → ℕ → ℕ
apart a b = max a b - min a b

-- the second less the first
abbrev pub between : ℕ → ℕ → ℤ
between from to = pos to -ℤ pos from

-- 18: the counter runs, and the two cycles lie 32767 × N or more apart
unfoldable pub far_of : Timer → ℕ → ℕ → ℕ
far_of t first second = cond (running_of t && leb (32767 * divisor_of t) (apart first second)) 18 0

-- the first of three numbers that is not 0
unfoldable pub foremost : ℕ → ℕ → ℕ → ℕ
foremost a b c = cond (not (eqb a 0)) a (cond (not (eqb b 0)) b c)

-- 2 and 3 on the first cycle, then on the second, each against the timer's latest; then 18
unfoldable pub refusal_of : Timer → ℕ → ℕ → ℕ
refusal_of t first second = foremost (late t first) (late t second) (far_of t first second)

-- ---- the answer

-- its values: a refusal has none, so that it is no accepted answer; else the shift
pub data Values : Type 0 where
  refused : Values
  by : ℤ → Values

-- 02's number of each case of the code's answer, 0 where it is accepted
abbrev pub number_of : Moved → ℕ
number_of (Refused n) = n
number_of (By z) = 0

-- the values of each case
abbrev pub values_of : Moved → Values
values_of (Refused n) = refused
values_of (By z) = by z

-- the answer that a number and values say
abbrev pub answer_of : ℕ → Values → Moved
answer_of n refused = Refused n
answer_of n (by z) = By z

-- Determined: number and values determine the answer, its case too
abbrev pub Determined : Type 0
Determined = (a : Moved) → answer_of (number_of a) (values_of a) ≡ a

-- the tick number of the second less that of the first, 0 when it does not run
unfoldable pub values_at : Timer → ℕ → ℕ → Values
values_at t first second =
    cond (eqb (refusal_of t first second) 0)
    (by (cond (running_of t) (between (ticks_at (prescaler_of t) first) (ticks_at (prescaler_of t) second)) (pos 0)))
    refused

-- what the code answers: 02's number, and the shift where that is 0
pub record Answers (t : Timer) (first second : ℕ) (r : Moved) : Type 0 where
  pub number : number_of r ≡ refusal_of t first second
  pub values : values_of r ≡ values_at t first second

-- the answer that these determine
abbrev pub shift_of : Timer → ℕ → ℕ → Moved
shift_of t first second = answer_of (refusal_of t first second) (values_at t first second)
