use mathlib.Core.Path.{ap}
use borrow.Author.Rules.{rules}
use Rattle.time.specs.Clock.{clock_at}
use Rattle.time.proofs.clock.Clock.synced.Goals as goal

pub returns : goal.returns
returns c = ap (clock_at c.args.cycle.0 c.args.self.origin.0) c.later.ensures
