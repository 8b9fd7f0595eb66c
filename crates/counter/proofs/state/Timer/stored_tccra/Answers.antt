use borrow.Author.Tests.{ne_eqb}
use Rattle.counter.specs.Registers.{stored_a}
use Rattle.counter.proofs.state.Timer.stored_tccra.Goals as goal

pub returns-then-c : goal.returns-then-c
unfolding stored_a
returns-then-c c = simp (c.in-0.is, c.if-c.true)

pub returns-else-c : goal.returns-else-c
unfolding stored_a
returns-else-c c = simp (c.in-0.is, c.if-c.false)

pub returns-in-1 : goal.returns-in-1
unfolding stored_a
returns-in-1 c = simp c.in-1.is

pub returns-in_default : goal.returns-in_default
unfolding stored_a
returns-in_default c = simp (ne_eqb _ _ c.in_default.in_default-own.rest.0.1, ne_eqb _ _ c.in_default.in_default-own.rest.1)
