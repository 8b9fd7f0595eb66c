use Rattle.figures.specs.Figures.{codes}
use Rattle.wdt_lines.proofs.Telling.{told_changed, told_plain}
use Rattle.wdt_lines.proofs.called.told.Goals as goal

pub returns-then-end-area : goal.returns-then-end-area
unfolding codes
returns-then-end-area c =
    let a = c.args in
    told_changed a.w a.r a.area.now _ _ c.changed-end.result c.written.result (c.written.ensures a.area.now) c.changed-end.ensures c.if-end-area.true c.number.ensures

pub returns-else-end-area : goal.returns-else-end-area
returns-else-end-area c =
    let a = c.args in
    told_plain a.w a.r a.area.now _ _ c.changed-end.result c.written.result (c.written.ensures a.area.now) c.changed-end.ensures c.if-end-area.false c.answer.ensures
