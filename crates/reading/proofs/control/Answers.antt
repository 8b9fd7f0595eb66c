use Rattle.counter.specs.Registers.{control_of}
use borrow.Author.Tests.{ne_eqb}
use Rattle.reading.proofs.control.Goals as goal

pub returns-then-is_split : goal.returns-then-is_split
unfolding control_of
returns-then-is_split c = simp (c.in-10.is, ← c.is_split.ensures, c.if-is_split.true)

pub returns-else-is_split : goal.returns-else-is_split
unfolding control_of
returns-else-is_split c = simp (c.in-10.is, ← c.is_split.ensures, c.if-is_split.false, c.packed.ensures)

pub returns-in-11 : goal.returns-in-11
unfolding control_of
returns-in-11 c = simp c.in-11.is

pub returns-in_default : goal.returns-in_default
unfolding control_of
returns-in_default c = simp (ne_eqb _ _ c.in_default.in_default-own.rest.0.1, ne_eqb _ _ c.in_default.in_default-own.rest.1)
