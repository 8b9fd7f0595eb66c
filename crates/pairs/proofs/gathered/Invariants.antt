-- `pairs::gathered` meets its contract. The loop's invariant: it takes a step for each of the line's words.
use Rattle.std.proofs.Common.{◌-◌, length}
use Rattle.pairs.specs.Pairs.{stepped}
use Rattle.pairs.proofs.Lines.{Turning}
use Rattle.pairs.proofs.gathered.Given as goal

abbrev pub invariant-loop-at : goal.invariant-loop-at
invariant-loop-at g l = Turning (stepped g.K.Keyed.kept) l.line l.initial.keys l.from l.keys l.at

abbrev pub decreases-loop-at : goal.decreases-loop-at
decreases-loop-at g l = length l.line - l.at
