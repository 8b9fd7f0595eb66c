use Rattle.std.proofs.Common.{◌≡◌, ◌+◌, ◌*◌, ◌≤◌, length}
use Rattle.pieces.specs.Pieces.{wholes}
use Rattle.figures.proofs.Writing.{Writing}
use Rattle.dump.specs.Pieces.{written_by, after}
use Rattle.dump.proofs.Lines.{left, kept}
use Rattle.dump.proofs.writer.Writer.lines.Given as goal

-- with the lines of what is left of the piece, what is written is the lines of the piece
abbrev pub invariant-loop-whole : goal.invariant-loop-whole
invariant-loop-whole l = record {
  lines : Writing l.initial.out l.out l.from l.at (left l.records l.self.last) (written_by l.fn.self l.bytes);
  writer : kept l.records l.self.last ≡ after l.fn.self l.bytes;
  room : l.at + 32 * length (wholes l.records.part l.records.rest.now) ≤ length l.out;
}

abbrev pub decreases-loop-whole : goal.decreases-loop-whole
decreases-loop-whole l = length (wholes l.records.part l.records.rest.now)
