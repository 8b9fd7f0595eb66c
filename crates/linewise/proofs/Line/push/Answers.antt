-- A line that is too long takes no more.
use borrow.Author.Rules.{rules}
use native.Mathlib.Omega.{arith}
use mathlib.Core.Path.{refl}
use Rattle.linewise.proofs.Packing.{push_kept}
use Rattle.linewise.proofs.Holding.{hold_at, hold_over}
use Rattle.linewise.proofs.Line.push.Goals as goal

pub invariant_of-self : goal.invariant_of-self
invariant_of-self c = push_kept c.self.inside.bytes c.self.inside.len c.args.b c.self.inside.ended (search rules) (omega (arith, c.if-self-le-LONGEST.true)) c.self.invariant.behind

pub returns-then-self-le-LONGEST : goal.returns-then-self-le-LONGEST
returns-then-self-le-LONGEST c = rw (← c.self.view_is) (hold_at c.self.inside.bytes c.self.inside.len c.args.b (search rules) (search rules), refl)

pub returns-else-self-le-LONGEST : goal.returns-else-self-le-LONGEST
returns-else-self-le-LONGEST c = rw (← c.self.view_is) (hold_over c.self.inside.bytes c.self.inside.len c.args.b (search rules) (search rules) (search rules), refl)
