use Rattle.held.specs.Quick.{counting}
use Rattle.held.proofs.quick.counting.Goals as goal

pub returns-then-wide : goal.returns-then-wide
unfolding counting
returns-then-wide c = simp (c.if-wide.true, c.stilling-s.ensures)

pub returns-else-wide : goal.returns-else-wide
unfolding counting
returns-else-wide c = simp (c.if-wide.false, c.stilling-s.ensures)
