-- Number and values determine the answer.
use mathlib.Core.Path.{refl}
use Rattle.answers.specs.declared.Answer.TheVariants as answer
use Rattle.answers.specs.Answers.{Determined}

pub determined : Determined
determined (answer.Refused n) = refl
determined answer.Done = refl
determined (answer.Value v) = refl
determined (answer.Next n) = refl
determined (answer.Reached f) = refl
determined (answer.Paused c f) = refl
