use Rattle.page.proofs.Sheets.{then}
use Rattle.bench_lines.specs.Named.{lent}
use Rattle.bench_lines.proofs.Stepping.{step_long, step_plain}
use Rattle.std.proofs.Common.{sym, ◌∙◌}
use Rattle.bench_lines.proofs.turns.step.Goals as goal

pub returns-then-is_too_long : goal.returns-then-is_too_long
returns-then-is_too_long c =
    let a = c.args in
    let b = c.counted-b in
    step_long a.b b.result a.line.now.bytes b.ensures.1 _ _ a.room.now a.area.now a.items.now (sym c.is_too_long.ensures ∙ c.if-is_too_long.true) b.ensures.0 (then c.unreadable.ensures c.byte.ensures)

pub returns : goal.returns
returns c =
    let a = c.args in
    let b = c.counted-b in
    rw (step_plain a.b b.result a.line.now.bytes b.ensures.1 (lent a.room.now a.area.now a.items.now) (sym c.is_too_long.ensures ∙ c.if-is_too_long.false), ← c.held-held.ensures, ← c.find-end.ensures.2) c.heard.ensures
