use borrow.Author.Rules.{rules}
use Rattle.time.proofs.clock.Clock.released.Goals as goal

pub returns-else-on : goal.returns-else-on
returns-else-on c = simp (c.restarted.ensures, c.if-on.false)
