use mathlib.Core.Path.{refl}
use Rattle.replies.proofs.Begun.{begins}
use Rattle.replies.proofs.starts.start.Goals as goal

pub held_of-timer-requires : goal.held_of-timer-requires
held_of-timer-requires c = c.new-s.ensures.1

pub returns : goal.returns
returns c = begins _ _ _ c.new-s.ensures.0 refl c.held_of-timer.ensures
