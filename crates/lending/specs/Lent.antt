-- What a call on a lent timer leaves.
use Rattle.std.specs.Prelude.{List, ℕ}
use Rattle.counter.specs.declared.state.Timer.{Timer}
use Rattle.lending.specs.declared.Told.{Told as Reply}
use Rattle.answers.specs.Answers.{Told, Tells}

-- the timer left, the answer, the bytes written and the area are the core's
abbrev pub Leaves : Told → Timer → Reply → List ℕ → Type 0
Leaves x t r after = Tells x (record { answer = r.answer; timer = t; written = r.written }) after
