-- What each kind of answer says, and what follows it.
use Prim.Native.Nat.{ℕ}
use mathlib.Core.Path.{◌≡◌, refl}
use mathlib.Core.List.{List, []}
use Rattle.answers.specs.declared.Answer.{Answer}
use Rattle.answers.specs.declared.Answer.TheVariants as answer
use Rattle.display.specs.Answers.{unless_refused}

-- a refusal
pub after-refused : (a : Answer) (n : ℕ) (left : List ℕ) → a ≡ answer.Refused n → unless_refused a left ≡ []
unfolding unless_refused
after-refused a n left e = rw e

-- any other
pub after-accepted : (a : Answer) (left : List ℕ) → ((n : ℕ) → a ≡ answer.Refused n → ⊥) → unless_refused a left ≡ left
unfolding unless_refused
after-accepted (answer.Refused n) left h = absurd (h n refl)
after-accepted answer.Done left h = refl
after-accepted (answer.Value v) left h = refl
after-accepted (answer.Next e) left h = refl
after-accepted (answer.Reached f) left h = refl
after-accepted (answer.Paused c f) left h = refl
