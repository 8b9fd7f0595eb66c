use Rattle.shift.specs.Shift.{far_of}
use Rattle.shift.proofs.far.Goals as goal

pub returns-then-running-most : goal.returns-then-running-most
unfolding far_of
returns-then-running-most c = simp (simp (c.apart.ensures, c.running.ensures, c.prescaler-p.ensures) at c.if-running-most.true)

pub returns-else-running-most : goal.returns-else-running-most
unfolding far_of
returns-else-running-most c = simp (simp (c.apart.ensures, c.running.ensures, c.prescaler-p.ensures) at c.if-running-most.false)
