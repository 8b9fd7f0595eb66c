-- What the export of a list of writes promises (02, 2.1).
use Rattle.std.specs.Prelude.{ℕ, List, ◌≡◌}
use Rattle.writes.specs.Writes.{Listed}
use Rattle.replies.specs.declared.lists.Ended.{Ended}
use Rattle.held.specs.Reply.{Serves}

-- the items done, and of timer, reason, bytes written and every byte of the area what a call replies; what is kept of the timer is kept
pub record Ends (x : Listed) (r : Ended) (area : List ℕ) : Type 0 where
  pub done : r.done ≡ x.done
  pub told : Serves x.told r.timer r.reply area
