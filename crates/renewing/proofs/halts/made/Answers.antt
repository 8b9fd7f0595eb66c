use borrow.Author.Tests.{ne_eqb}
use Rattle.renewing.specs.Halts.{turned_of}
use Rattle.renewing.proofs.halts.made.Goals as goal

pub awake-requires : goal.awake-requires
awake-requires c = c.requires c.in-13.is

pub returns-in-12 : goal.returns-in-12
unfolding turned_of
returns-in-12 c = simp (c.in-12.is, c.asleep.ensures)

pub returns-in-13 : goal.returns-in-13
unfolding turned_of
returns-in-13 c = simp (c.in-13.is, c.awake.ensures)

pub returns-in-14 : goal.returns-in-14
unfolding turned_of
returns-in-14 c = simp (c.in-14.is, c.reduced.ensures)

pub returns-in-15 : goal.returns-in-15
unfolding turned_of
returns-in-15 c = simp (c.in-15.is, c.with_tsm.ensures)

pub returns-in_default : goal.returns-in_default
unfolding turned_of
returns-in_default c = simp (ne_eqb _ _ c.in_default.in_default-own.rest.0.0.0.1, ne_eqb _ _ c.in_default.in_default-own.rest.0.0.1, ne_eqb _ _ c.in_default.in_default-own.rest.0.1, ne_eqb _ _ c.in_default.in_default-own.rest.1, c.prescaled.ensures)
