-- The call has an area that was filled.
use Rattle.std.proofs.Common.{length}
use Rattle.timer_lines.specs.Called.{answered_by}
use Rattle.timer_lines.proofs.Telling.{told_leaves}
use Rattle.timer_lines.proofs.called.called.Goals as goal

pub returns : goal.returns
returns c =
    let a = c.args in
    told_leaves (answered_by a.t a.asked (length a.area.now)) _ _ _ _ (rw (← c.fill.ensures) c.call_timer-o.ensures) c.told.ensures
