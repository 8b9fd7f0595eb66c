use Rattle.counter.specs.Registers.{peeked}
use borrow.Author.Tests.{le-leb, lt-leb, eq-eqb, ne_eqb}
use native.Mathlib.Omega.{arith}
use Rattle.reading.proofs.peek.Goals as goal

pub returns-then-place-eq1 : goal.returns-then-place-eq1
unfolding peeked
returns-then-place-eq1 c = simp (le-leb c.args.place 9 (omega arith), eq-eqb _ _ c.if-place-eq1.true, c.word.ensures)

pub returns-else-place-eq1 : goal.returns-else-place-eq1
unfolding peeked
returns-else-place-eq1 c = simp (le-leb c.args.place 9 (omega arith), ne_eqb _ _ c.if-place-eq1.false, c.word-else-place-eq1.ensures)

pub returns-in_default : goal.returns-in_default
unfolding peeked
returns-in_default c = simp (lt-leb c.args.place 9 (omega arith), c.control.ensures)
