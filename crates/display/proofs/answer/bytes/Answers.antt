-- One byte more of those that were written.
use borrow.Author.Rules.{rules}
use lib.ListN.{take}
use Rattle.display.proofs.Hexes.{hexes_more}
use Rattle.display.proofs.answer.bytes.Goals as goal

pub loop-b-preserved : goal.loop-b-preserved
loop-b-preserved c = rw (← c.min.ensures) (hexes_more (take c.min.result c.args.area.now) c.loop-b.b-index (search rules) (rw c.min.ensures c.loop-b.invariant) c.two.ensures)
