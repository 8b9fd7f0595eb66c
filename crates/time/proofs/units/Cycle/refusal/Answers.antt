use borrow.Author.Tests.{lt-ltb, le-ltb}
use Rattle.time.proofs.units.Cycle.refusal.Goals as goal

pub returns-then-self-gt-LAST : goal.returns-then-self-gt-LAST
returns-then-self-gt-LAST c = simp (lt-ltb _ _ c.if-self-gt-LAST.true)

pub returns-then-self-latest : goal.returns-then-self-latest
returns-then-self-latest c = simp (le-ltb _ _ c.if-self-gt-LAST.false, lt-ltb _ _ c.if-self-latest.true)

pub returns-else-self-latest : goal.returns-else-self-latest
returns-else-self-latest c = simp (le-ltb _ _ c.if-self-gt-LAST.false, le-ltb _ _ c.if-self-latest.false)
