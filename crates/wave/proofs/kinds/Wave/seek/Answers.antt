use Rattle.std.proofs.Common.{get_or, ◌∙◌, arith}
use Rattle.wave.proofs.Searches.{Passed, passed-by, passed_over, ends-a, ends-b, ends}
use Rattle.wave.proofs.kinds.Wave.seek.Goals as goal
use Rattle.wave.proofs.kinds.Wave.seek.Goals.{then-self+else-ocr-count, else-self, then-self-2+else-ocr-count-2, else-self-2}

pub returns-then-ocr-count : goal.returns-then-ocr-count
returns-then-ocr-count c = let x = c.args in ends-a x.self x.ocr x.down x.count x.all c.if-self.true c.if-ocr-count.true

pub returns-then-ocr-count-2 : goal.returns-then-ocr-count-2
returns-then-ocr-count-2 c =
    let x = c.args in
    let a : Passed x.self.a x.down x.count (get_or x.ocr 0 0) x.all 0 c.if-self.gap c.if-self.looked = elim c.if-self.branch [
      | then-self+else-ocr-count w ↦ passed-by w.if-self.true w.if-ocr-count.false (w.gap-is ∙ w.nearer-gap.ensures) w.looked-is
      | else-self w ↦ passed_over w.if-self.false w.gap-is w.looked-is
    ] in
    ends-b x.self x.ocr x.down x.count x.all a c.if-self-2.true c.if-ocr-count-2.true

pub returns-then-self-3 : goal.returns-then-self-3
returns-then-self-3 c =
    let x = c.args in
    let a : Passed x.self.a x.down x.count (get_or x.ocr 0 0) x.all 0 c.if-self.gap c.if-self.looked = elim c.if-self.branch [
      | then-self+else-ocr-count w ↦ passed-by w.if-self.true w.if-ocr-count.false (w.gap-is ∙ w.nearer-gap.ensures) w.looked-is
      | else-self w ↦ passed_over w.if-self.false w.gap-is w.looked-is
    ] in
    let b : Passed x.self.b x.down x.count (get_or x.ocr 1 0) c.if-self.gap c.if-self.looked c.if-self-2.gap c.if-self-2.looked = elim c.if-self-2.branch [
      | then-self-2+else-ocr-count-2 w ↦ passed-by w.if-self-2.true w.if-ocr-count-2.false (w.gap-is ∙ w.nearer-gap-then-self-2.ensures) w.looked-is
      | else-self-2 w ↦ passed_over w.if-self-2.false w.gap-is w.looked-is
    ] in
    ends x.self x.ocr x.down x.count x.all a b (rw c.if-self-3.true c.nearer-gap-then-self-3.ensures) (rw c.if-self-3.true)

pub returns-else-self-3 : goal.returns-else-self-3
returns-else-self-3 c =
    let x = c.args in
    let a : Passed x.self.a x.down x.count (get_or x.ocr 0 0) x.all 0 c.if-self.gap c.if-self.looked = elim c.if-self.branch [
      | then-self+else-ocr-count w ↦ passed-by w.if-self.true w.if-ocr-count.false (w.gap-is ∙ w.nearer-gap.ensures) w.looked-is
      | else-self w ↦ passed_over w.if-self.false w.gap-is w.looked-is
    ] in
    let b : Passed x.self.b x.down x.count (get_or x.ocr 1 0) c.if-self.gap c.if-self.looked c.if-self-2.gap c.if-self-2.looked = elim c.if-self-2.branch [
      | then-self-2+else-ocr-count-2 w ↦ passed-by w.if-self-2.true w.if-ocr-count-2.false (w.gap-is ∙ w.nearer-gap-then-self-2.ensures) w.looked-is
      | else-self-2 w ↦ passed_over w.if-self-2.false w.gap-is w.looked-is
    ] in
    ends x.self x.ocr x.down x.count x.all a b (rw c.if-self-3.false) (rw c.if-self-3.false (omega arith))
