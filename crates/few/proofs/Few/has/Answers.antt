use borrow.Author.Tests.{eq-eqb, ne_eqb}
use mathlib.Core.Path.{refl}
use Rattle.few.specs.Few.{has}
use Rattle.few.proofs.Passing.{decides, passes, ends}
use borrow.Author.Rules.{rules}
use Rattle.few.proofs.Few.has.Goals as goal

pub loop-i-init : goal.loop-i-init
loop-i-init c = record { upto = search rules; same = refl }

pub returns-then-items-i : goal.returns-then-items-i
unfolding has
returns-then-items-i c = decides (has _) c.args.self (search rules) c.requires.0 c.loop-i.invariant c.loop-i-test.true (simp (eq-eqb _ _ c.if-items-i.true))

pub loop-i-preserved : goal.loop-i-preserved
unfolding has
loop-i-preserved c = passes (has _) c.args.self (search rules) c.requires.0 c.loop-i.invariant c.loop-i-test.true (simp (ne_eqb _ _ c.if-items-i.false))

pub returns : goal.returns
unfolding has
returns c = ends (has _) c.args.self (search rules) c.requires.0 c.loop-i.invariant (search rules) refl
