-- What the export of a start promises.
use Rattle.std.specs.Prelude.{◌≡◌}
use Rattle.counter.specs.declared.fresh.Started.{Started}
use Rattle.held.specs.Held.{Kept}
use Rattle.replies.specs.declared.starts.Begun.{Begun}

-- the timer after a start, and the refusal's number
pub record Begins (s : Started) (r : Begun) : Type 0 where
  pub number : r.number ≡ s.number
  pub timer : r.timer.timer ≡ s.timer
  pub kept : Kept r.timer
