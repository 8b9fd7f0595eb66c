use Rattle.counter.specs.Registers.{commit}
use borrow.Author.Tests.{le-leb, lt-leb}
use native.Mathlib.Omega.{arith}
use Rattle.counter.proofs.state.Timer.commit.Goals as goal

pub returns-in-0-to-1 : goal.returns-in-0-to-1
unfolding commit
returns-in-0-to-1 c = simp (le-leb c.args.place 1 (omega arith), c.with_count.ensures, c.committed-number.ensures)

pub returns-in-2-to-3 : goal.returns-in-2-to-3
unfolding commit
returns-in-2-to-3 c = simp (lt-leb c.args.place 1 (omega arith), le-leb c.args.place 3 (omega arith), c.with_compare.ensures, c.committed-number.ensures)

pub returns-in-4-to-5 : goal.returns-in-4-to-5
unfolding commit
returns-in-4-to-5 c = simp (lt-leb c.args.place 1 (omega arith), lt-leb c.args.place 3 (omega arith), le-leb c.args.place 5 (omega arith), c.with_compare-in-4-to-5.ensures, c.committed-number.ensures)

pub returns-in-6-to-7 : goal.returns-in-6-to-7
unfolding commit
returns-in-6-to-7 c = simp (lt-leb c.args.place 1 (omega arith), lt-leb c.args.place 3 (omega arith), lt-leb c.args.place 5 (omega arith), le-leb c.args.place 7 (omega arith), c.with_compare-in-6-to-7.ensures, c.committed-number.ensures)

pub returns-in_default : goal.returns-in_default
unfolding commit
returns-in_default c = simp (lt-leb c.args.place 1 (omega arith), lt-leb c.args.place 3 (omega arith), lt-leb c.args.place 5 (omega arith), lt-leb c.args.place 7 (omega arith), c.with_icr.ensures, c.committed-number.ensures)
