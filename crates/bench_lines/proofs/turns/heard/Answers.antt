use Rattle.bench_lines.specs.Named.{lent}
use Rattle.bench_lines.proofs.Hearing.{hears_none, heard_none, heard_words}
use Rattle.bench_lines.proofs.turns.heard.Goals as goal

pub returns-then-start-line : goal.returns-then-start-line
returns-then-start-line c =
    let a = c.args in
    rw (heard_none a.b a.line.now (lent a.room.now a.area.now a.items.now) c.skip-start.result c.skip-start.ensures.2 c.if-start-line.true) (hears_none a.b a.page.now a.room.now a.area.now a.items.now c.requires)

pub returns : goal.returns
returns c =
    let a = c.args in
    rw (heard_words a.b a.line.now (lent a.room.now a.area.now a.items.now) c.skip-start.result c.skip-start.ensures.2 c.if-start-line.false) (c.ended.ensures _ _ _ _ _ c.worded-heard.ensures)
