-- The area is filled before the list is worked.
use Rattle.std.proofs.Common.{length}
use Rattle.figures.specs.Figures.{codes}
use Rattle.passage.specs.Passage.{ticks}
use Rattle.room.specs.Room.{filled}
use Rattle.writes.specs.Writes.{listing}
use Rattle.list_lines.proofs.Working.{told_changed, told_ended}
use Rattle.list_lines.proofs.worked.worked.Goals as goal

pub returns-then-end-area : goal.returns-then-end-area
unfolding codes
returns-then-end-area c list =
    let a = c.args in
    told_changed (listing ticks a.t a.list.now (filled (length a.area.now))) c.writes-w.result _ _ _ (rw (← c.fill.ensures) c.writes-w.ensures) _ c.changed-end.ensures list c.if-end-area.true c.number.ensures

pub returns : goal.returns
returns c list =
    let a = c.args in
    told_ended (listing ticks a.t a.list.now (filled (length a.area.now))) c.writes-w.result _ _ _ (rw (← c.fill.ensures) c.writes-w.ensures) _ c.changed-end.ensures list c.if-end-area.false c.ended.ensures
