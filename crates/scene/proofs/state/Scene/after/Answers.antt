use Rattle.scene.specs.Scene.{after_at}
use borrow.Author.Tests.{eqb-false}
use Rattle.std.proofs.Common.{◌&&◌, eqb, arith}
use Rattle.scene.proofs.Choices.{neither}
use Rattle.scene.proofs.state.Scene.after.Goals as goal

pub overflow_add-result : goal.overflow_add-result
overflow_add-result c = let x = c.args in record { fits = omega (arith, c.requires, eqb-false x.count x.self.max (neither (eqb x.count x.top && x.self.ends) _ c.if-count-top.false).1) }

pub returns-then-count-top : goal.returns-then-count-top
unfolding after_at
returns-then-count-top c = simp c.if-count-top.true

pub returns-else-count-top : goal.returns-else-count-top
unfolding after_at
returns-else-count-top c = simp c.if-count-top.false
