-- What a call's outcome tells, as its line does.
use Rattle.std.proofs.Common.{◌≡◌, ℕ, List, sym, ap, ◌∙◌, Some}
use Rattle.page.specs.Page.{Puts}
use Rattle.counter.specs.declared.state.Timer.{Timer}
use Rattle.answers.specs.Answers.{Told, Tells, answer_of, number_of, values_of, Values}
use Rattle.answers.specs.declared.Answer.{Answer}
use Rattle.answers.specs.declared.Outcome.{Outcome}
use Rattle.answers.proofs.Determined.{determined}
use Rattle.shift.specs.declared.Moved.{Moved}
use Rattle.shift.specs.Shift.{Answers, shift_of}
use Rattle.shift.proofs.Determined.{answer-is}
use Rattle.timer_lines.specs.Called.{Leaves, told_of, outcome_of, left_by}

-- number and values say the answer
said-is : (a : Answer) (n : ℕ) (v : Values) → number_of a ≡ n → values_of a ≡ v → a ≡ answer_of n v
said-is a n v en ev = sym (determined a) ∙ ap (λ (k : ℕ). answer_of k (values_of a)) en ∙ ap (answer_of n) ev

-- what is told of an outcome is the outcome
outcome-is : (x : Told) (r : Outcome) (after : List ℕ) → Tells x r after → r ≡ outcome_of x
outcome-is x r after t =
    ap (λ (a : Answer). record { answer = a; timer = r.timer; written = r.written }) (said-is r.answer x.number x.values t.number t.values)
    ∙ rw (t.timer, t.written)

-- a call's line leaves what is told
pub told_leaves : (x : Told) (r : Outcome) (area old new : List ℕ) → Tells x r area → Puts old new (told_of r area)
    → Leaves (left_by x) old new area (record { timer = Some r.timer; written = r.written })
told_leaves x r area old new t p = record {
  timer = ap Some t.timer;
  written = t.written;
  area = t.area;
  puts = rw (← outcome-is x r area t, ← t.area) p;
  valid = t.valid;
}

-- what a shift answers
pub shift_is : {t : Timer} {first second : ℕ} {r : Moved} → Answers t first second r → r ≡ shift_of t first second
shift_is a = answer-is a
