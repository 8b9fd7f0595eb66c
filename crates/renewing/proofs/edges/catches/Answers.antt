use mathlib.Core.Path.{refl}
use Rattle.renewing.specs.Edges.{catches_of}
use Rattle.renewing.proofs.edges.catches.Goals as goal

pub returns : goal.returns
unfolding catches_of
returns c = rw c.edge_captures.ensures refl
