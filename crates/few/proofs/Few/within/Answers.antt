use borrow.Author.Tests.{lt-leb, le-leb}
use mathlib.Core.Path.{refl}
use Rattle.few.specs.Few.{within}
use Rattle.few.proofs.Passing.{decides, passes, ends}
use borrow.Author.Rules.{rules}
use Rattle.few.proofs.Few.within.Goals as goal

pub loop-i-init : goal.loop-i-init
loop-i-init c = record { upto = search rules; same = refl }

pub returns-then-bound-items : goal.returns-then-bound-items
unfolding within
returns-then-bound-items c = decides (within _) c.args.self (search rules) c.requires c.loop-i.invariant c.loop-i-test.true (simp (lt-leb _ _ c.if-bound-items.true))

pub loop-i-preserved : goal.loop-i-preserved
unfolding within
loop-i-preserved c = passes (within _) c.args.self (search rules) c.requires c.loop-i.invariant c.loop-i-test.true (simp (le-leb _ _ c.if-bound-items.false))

pub returns : goal.returns
unfolding within
returns c = ends (within _) c.args.self (search rules) c.requires c.loop-i.invariant (search rules) refl
