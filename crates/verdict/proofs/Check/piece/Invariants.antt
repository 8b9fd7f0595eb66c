use Rattle.std.proofs.Common.{◌≡◌, length}
use Rattle.pieces.specs.Pieces.{part_after, wholes}
use Rattle.verdict.specs.Check.{judged_all, noted_all}
use Rattle.verdict.proofs.Check.piece.Given as goal

-- what is left of the piece gives what all of it gives
abbrev pub invariant-loop-whole : goal.invariant-loop-whole
invariant-loop-whole l = record {
  part : part_after l.records.part l.records.rest.now ≡ part_after l.fn.self.part l.bytes;
  seen : l.self.seen ≡ l.initial.self.seen;
  judge : judged_all l.self.judge (wholes l.records.part l.records.rest.now) ≡ judged_all l.fn.self.judge (wholes l.fn.self.part l.bytes);
  pins : noted_all l.self.pins (wholes l.records.part l.records.rest.now) ≡ noted_all l.fn.self.pins (wholes l.fn.self.part l.bytes);
}

abbrev pub decreases-loop-whole : goal.decreases-loop-whole
decreases-loop-whole l = length (wholes l.records.part l.records.rest.now)
