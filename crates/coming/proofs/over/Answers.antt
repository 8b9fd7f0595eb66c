use Rattle.coming.specs.Coming.{over_in}
use Rattle.std.proofs.Common.{sym, ◌∙◌}
use Rattle.coming.proofs.over.Goals as goal

pub returns-then-s : goal.returns-then-s
unfolding over_in
returns-then-s c = rw c.if-s.true

pub returns-then-dual_slope : goal.returns-then-dual_slope
unfolding over_in
returns-then-dual_slope c = rw (c.if-s.false, sym c.dual_slope.ensures ∙ c.if-dual_slope.true)

pub returns-else-dual_slope : goal.returns-else-dual_slope
unfolding over_in
returns-else-dual_slope c = rw (c.if-s.false, sym c.dual_slope.ensures ∙ c.if-dual_slope.false)
