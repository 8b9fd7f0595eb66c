-- What stands before the next line feed is held, and the mark says whether it came.
use native.Mathlib.Omega.{arith}
use mathlib.Core.Path.{refl, ap, ◌∙◌}
use Rattle.linewise.specs.Texts.{Text, going}
use Rattle.linewise.proofs.Holding.{cut_ended, cut_short}
use Rattle.linewise.proofs.Line.next_cut.Goals as goal

pub returns-then-end-input : goal.returns-then-end-input
returns-then-end-input c =
    let a = c.args in
    let held = rw c.begin.ensures.0 at c.extend.ensures.0 in
    (omega (arith, c.find-end.ensures.0, c.requires), omega (arith, c.if-end-input.true), rw (ap (λ (t : Text). t.bytes) c.self.view_is) (cut_ended a.input.now (going a.self.now) _ a.from c.find-end.result c.find-end.ensures.2 held c.if-end-input.true), refl)

pub returns : goal.returns
returns c =
    let a = c.args in
    let held = rw c.begin.ensures.0 at c.extend.ensures.0 in
    (omega (arith, c.if-end-input.false, c.requires), c.find-end.ensures.1, cut_short a.input.now (going a.self.now) _ a.from c.find-end.result c.find-end.ensures.2 held c.if-end-input.false, c.extend.ensures.1 ∙ c.begin.ensures.1)
