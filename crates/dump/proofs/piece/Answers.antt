use Rattle.std.proofs.Common.{◌+◌, ◌/◌, length, le-ltb}
use Rattle.dump.specs.Answers.{lines_outcome}
use Rattle.dump.proofs.Answering.{wrote_answers}
use Rattle.dump.proofs.piece.Goals as goal

pub returns-clause-answers : goal.returns-clause-answers
unfolding lines_outcome
returns-clause-answers c = rw (le-ltb (length c.args.out.now / 32) (length c.args.bytes.now / 10 + 1) c.if-out-bytes.false) (wrote_answers c.lines.ensures.lines c.lines.ensures.room)
