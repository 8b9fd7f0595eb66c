-- The bytes passed are held, and the mark is as it was.
use mathlib.Core.Path.{◌≡◌}
use lib.ListN.{take}
use Rattle.linewise.specs.Lines.{Holds}
use Rattle.linewise.proofs.Line.extend.Given as goal

abbrev pub invariant-loop-b : goal.invariant-loop-b
invariant-loop-b l = (Holds l.initial.self.bytes l.self.bytes (take l.b-index l.bytes)) × (l.self.ended ≡ l.initial.self.ended)
