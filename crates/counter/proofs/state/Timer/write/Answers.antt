use Rattle.counter.proofs.Logging.{logs-none}
use Rattle.counter.specs.Registers.{written}
use borrow.Author.Tests.{le-leb, lt-leb, eq-eqb, ne_eqb}
use native.Mathlib.Omega.{arith}
use Rattle.counter.proofs.state.Timer.write.Goals as goal

pub returns-in-10 : goal.returns-in-10
unfolding written
returns-in-10 c = rw c.in-10.is c.write_tccra.ensures

pub returns-in-11 : goal.returns-in-11
unfolding written
returns-in-11 c = rw c.in-11.is c.write_tccrb.ensures

pub returns-then-place-eq1 : goal.returns-then-place-eq1
unfolding written
returns-then-place-eq1 c = rw (le-leb c.args.place 9 (omega arith), eq-eqb _ _ c.if-place-eq1.true) (logs-none _ c.with_temp.ensures (rw c.new.ensures))

pub returns-else-place-eq1 : goal.returns-else-place-eq1
unfolding written
returns-else-place-eq1 c = rw (le-leb c.args.place 9 (omega arith), ne_eqb _ _ c.if-place-eq1.false) (logs-none _ c.commit.ensures (rw c.new-else-place-eq1.ensures))

pub returns-in_default : goal.returns-in_default
unfolding written
returns-in_default c = rw (lt-leb c.args.place 9 (omega arith), ne_eqb _ _ c.in_default.in_default-own.rest.0.1, ne_eqb _ _ c.in_default.in_default-own.rest.1) c.driven.ensures
