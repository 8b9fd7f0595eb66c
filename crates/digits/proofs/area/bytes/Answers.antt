-- The word is `-`, or its pairs are stored.
use Rattle.std.proofs.Common.{sym, ◌∙◌}
use Rattle.digits.proofs.Storing.{bytes_none, bytes_some}
use Rattle.digits.proofs.area.bytes.Goals as goal

pub returns-then-eq : goal.returns-then-eq
returns-then-eq c =
    let a = c.args in
    bytes_none a.line.now a.out.now a.at c.skip-start.result c.find-end.result c.skip-start.ensures.2 c.find-end.ensures.2 (sym (rw c.as_slice.ensures at c.eq.ensures) ∙ c.if-eq.true)

pub returns : goal.returns
returns c =
    let a = c.args in
    bytes_some a.line.now a.out.now a.at c.skip-start.result c.find-end.result c.skip-start.ensures.2 c.find-end.ensures.2 _ _ (sym (rw c.as_slice.ensures at c.eq.ensures) ∙ c.if-eq.false) c.taken.ensures
