use Rattle.std.proofs.Common.{sym, ap, ◌∙◌, arith, length}
use Rattle.dump.specs.declared.writer.Writer.{Writer}
use Rattle.pieces.proofs.Cuts.{wholes-length}
use Rattle.figures.proofs.Writing.{writing-none, writing_more, writing-all}
use Rattle.dump.proofs.Lines.{left-one, kept-one, left-none, kept-none}
use Rattle.dump.proofs.writer.Writer.lines.Goals as goal

pub loop-whole-init : goal.loop-whole-init
loop-whole-init c = record {
  lines = rw (c.records-records.ensures.part, c.records-records.ensures.rest) (writing-none _ _ _);
  writer = rw (c.records-records.ensures.part, c.records-records.ensures.rest);
  room = rw (c.records-records.ensures.part, c.records-records.ensures.rest) (omega (arith, wholes-length c.args.self.now.part c.args.bytes.now));
}

pub loop-whole-preserved : goal.loop-whole-preserved
loop-whole-preserved c =
    let one = c.in-Some.ensures.steps in
    let last = ap (λ (w : Writer). w.last) c.change-at.ensures.last in
    let fewer = ap length one.wholes in
    record {
      lines = rw last (writing_more (rw (left-one one) at c.loop-whole.invariant.lines) c.change-at.ensures.lines);
      writer = rw last (sym (kept-one one _) ∙ c.loop-whole.invariant.writer);
      room = omega arith;
    }

pub returns-clause-lines : goal.returns-clause-lines
returns-clause-lines c = writing-all (rw (left-none c.in_default.ensures.steps) at c.loop-whole.invariant.lines)

pub returns-clause-writer : goal.returns-clause-writer
returns-clause-writer c = rw c.remainder-self.ensures (sym (kept-none c.in_default.ensures.steps _) ∙ c.loop-whole.invariant.writer)
