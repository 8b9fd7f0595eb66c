-- After a refusal nothing follows.
use Rattle.display.proofs.Tellings.{after-refused, after-accepted}
use Rattle.display.specs.Answers.{left_by}
use Rattle.figures.specs.Figures.{codes}
use Rattle.page.proofs.Sheets.{then, put_none}
use Rattle.display.proofs.answer.answer.Goals as goal

pub returns-in-Refused : goal.returns-in-Refused
returns-in-Refused c =
    let a = c.args in
    rw (after-refused a.o.answer _ (left_by a.o a.area.now) c.in-Refused.is) (then c.said.ensures (put_none _))

pub returns : goal.returns
unfolding codes left_by
returns c =
    let a = c.args in
    let e = c.next-next.ensures in
    rw (after-accepted a.o.answer (left_by a.o a.area.now) c.in_default.not-Refused, ← e) (then c.said.ensures (then (then c.cycle.ensures c.flags.ensures) c.records.ensures))
