-- `scheduler::Scheduler::at` meets its contract: with one event more the earliest cycle is the lesser of two.
use native.Mathlib.Omega.{arith}
use Rattle.events.proofs.Lists.{earliest-more}
use Rattle.scheduler.proofs.Scheduler.at.Goals as goal

pub invariant_of-result : goal.invariant_of-result
invariant_of-result c =
    rw (c.push.ensures, earliest-more c.self.inside.events (record { key = c.args.key; cycle = c.args.cycle }) (omega arith), ← c.self.invariant) c.min.ensures
