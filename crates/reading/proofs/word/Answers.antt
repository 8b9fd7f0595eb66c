use Rattle.counter.specs.Registers.{word_of}
use borrow.Author.Tests.{le-leb, lt-leb}
use native.Mathlib.Omega.{arith}
use Rattle.reading.proofs.word.Goals as goal

pub returns-in-0-to-1 : goal.returns-in-0-to-1
unfolding word_of
returns-in-0-to-1 c = simp (le-leb c.args.place 1 (omega arith))

pub returns-in-2-to-3 : goal.returns-in-2-to-3
unfolding word_of
returns-in-2-to-3 c = simp (lt-leb c.args.place 1 (omega arith), le-leb c.args.place 3 (omega arith))

pub returns-in-4-to-5 : goal.returns-in-4-to-5
unfolding word_of
returns-in-4-to-5 c = simp (lt-leb c.args.place 1 (omega arith), lt-leb c.args.place 3 (omega arith), le-leb c.args.place 5 (omega arith))

pub returns-in-6-to-7 : goal.returns-in-6-to-7
unfolding word_of
returns-in-6-to-7 c = simp (lt-leb c.args.place 1 (omega arith), lt-leb c.args.place 3 (omega arith), lt-leb c.args.place 5 (omega arith), le-leb c.args.place 7 (omega arith))

pub returns-in_default : goal.returns-in_default
unfolding word_of
returns-in_default c = simp (lt-leb c.args.place 1 (omega arith), lt-leb c.args.place 3 (omega arith), lt-leb c.args.place 5 (omega arith), lt-leb c.args.place 7 (omega arith))
