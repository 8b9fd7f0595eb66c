-- Number and values determine the answer.
use Prim.Native.Nat.{ℕ}
use mathlib.Core.Path.{◌≡◌, refl, sym, ◌∙◌}
use Rattle.counter.specs.declared.state.Timer.{Timer}
use Rattle.shift.specs.declared.Moved.{Moved}
use Rattle.shift.specs.declared.Moved.TheVariants.{Refused, By}
use Rattle.shift.specs.Shift.{Determined, Answers, shift_of}

pub determined : Determined
determined (Refused n) = refl
determined (By z) = refl

pub answer-is : {t : Timer} {first second : ℕ} {r : Moved} → Answers t first second r → r ≡ shift_of t first second
answer-is {r = r} a = sym (determined r) ∙ rw (a.number, a.values)
