-- After a refusal nothing follows.
use Rattle.page.proofs.Sheets.{then, put_none}
use Rattle.wdt_lines.specs.Shown.{unless_refused, left_by}
use Rattle.wdt_lines.proofs.Telling.{after_accepted}
use Rattle.wdt_lines.proofs.shown.answer.Goals as goal

pub returns-in-Err : goal.returns-in-Err
unfolding unless_refused
returns-in-Err c = rw (c.in-Err.is, ← c.number.ensures) (then c.refused.ensures (put_none _))

pub returns-in-Ok : goal.returns-in-Ok
unfolding left_by
returns-in-Ok c = rw (c.in-Ok.is, after_accepted c.in-Ok.o.answer, ← c.next.ensures) (then c.said.ensures (then c.event.ensures c.records.ensures))
