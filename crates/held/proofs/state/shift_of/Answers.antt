use borrow.Author.Tests.{ne_eqb}
use Rattle.held.specs.Held.{shift_at}
use Rattle.held.proofs.state.shift_of.Goals as goal

pub returns-in-8 : goal.returns-in-8
unfolding shift_at
returns-in-8 c = simp (c.if-running.true, c.in-8.is)

pub returns-in-32 : goal.returns-in-32
unfolding shift_at
returns-in-32 c = simp (c.if-running.true, c.in-32.is)

pub returns-in-64 : goal.returns-in-64
unfolding shift_at
returns-in-64 c = simp (c.if-running.true, c.in-64.is)

pub returns-in-128 : goal.returns-in-128
unfolding shift_at
returns-in-128 c = simp (c.if-running.true, c.in-128.is)

pub returns-in-256 : goal.returns-in-256
unfolding shift_at
returns-in-256 c = simp (c.if-running.true, c.in-256.is)

pub returns-in-1024 : goal.returns-in-1024
unfolding shift_at
returns-in-1024 c = simp (c.if-running.true, c.in-1024.is)

pub returns-in_default : goal.returns-in_default
unfolding shift_at
returns-in_default c = simp (c.if-running.true, ne_eqb _ _ c.in_default.in_default-own.rest.0.0.0.0.0.1, ne_eqb _ _ c.in_default.in_default-own.rest.0.0.0.0.1, ne_eqb _ _ c.in_default.in_default-own.rest.0.0.0.1, ne_eqb _ _ c.in_default.in_default-own.rest.0.0.1, ne_eqb _ _ c.in_default.in_default-own.rest.0.1, ne_eqb _ _ c.in_default.in_default-own.rest.1)

pub returns-else-running : goal.returns-else-running
unfolding shift_at
returns-else-running c = simp c.if-running.false
