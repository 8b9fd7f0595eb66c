use Rattle.std.proofs.Common.{arith, length, le-ltb}
use Rattle.dump.specs.Answers.{header_outcome}
use Rattle.dump.proofs.Answering.{wrote_answers}
use Rattle.dump.proofs.header.Goals as goal

pub returns : goal.returns
unfolding header_outcome
returns c = rw (le-ltb (length c.args.out.now) 6954 c.if-out-lt-HEADER.false, ← c.pins.ensures) (wrote_answers c.put_header.ensures.lines (omega arith))
