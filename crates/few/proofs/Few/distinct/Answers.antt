use mathlib.Core.Path.{refl}
use Rattle.few.specs.Few.{distinct}
use Rattle.few.proofs.Passing.{decides, passes, ends}
use borrow.Author.Rules.{rules}
use Rattle.few.proofs.Few.distinct.Goals as goal

pub loop-i-init : goal.loop-i-init
loop-i-init c = record { upto = search rules; same = refl }

pub returns-then-has : goal.returns-then-has
unfolding distinct
returns-then-has c = decides distinct c.args.self (search rules) c.requires c.loop-i.invariant c.loop-i-test.true (simp (← c.has.ensures, c.if-has.true))

pub loop-i-preserved : goal.loop-i-preserved
unfolding distinct
loop-i-preserved c = passes distinct c.args.self (search rules) c.requires c.loop-i.invariant c.loop-i-test.true (simp (← c.has.ensures, c.if-has.false))

pub returns : goal.returns
unfolding distinct
returns c = ends distinct c.args.self (search rules) c.requires c.loop-i.invariant (search rules) refl
