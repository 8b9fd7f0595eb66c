-- The board tells of filled areas.
use Rattle.std.proofs.Common.{length}
use Rattle.passage.specs.Passage.{ticks}
use Rattle.board.specs.Calls.{told}
use Rattle.board_lines.specs.Ordered.{filled_to}
use Rattle.board_lines.proofs.Ordering.{told_leaves}
use Rattle.board_lines.proofs.ordered.called.Goals as goal

pub returns : goal.returns
returns c =
    let a = c.args in
    told_leaves (told ticks a.b a.order a.cycle (filled_to (length a.zero.now) (length a.one.now) (length a.two.now))) _ _ _ _ _ _ _ (rw (← c.fill.ensures, ← c.fill-2.ensures, ← c.fill-3.ensures) c.call-o.ensures) c.told.ensures
