-- The bytes passed are put.
use Prim.Native.Nat.{min}
use lib.ListN.{length, take}
use Rattle.page.specs.Page.{Puts}
use Rattle.display.specs.Answers.{hexes}
use Rattle.display.proofs.answer.bytes.Given as goal

abbrev pub invariant-loop-b : goal.invariant-loop-b
invariant-loop-b l = Puts l.initial.page l.page (hexes (take l.b-index (take (min l.written (length l.area)) l.area)))
