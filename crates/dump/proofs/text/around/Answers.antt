use Rattle.figures.proofs.Writing.{wrote_then}
use Rattle.dump.proofs.text.around.Goals as goal

pub returns : goal.returns
returns c = wrote_then (wrote_then c.put-a.ensures c.number-b.ensures) c.put.ensures
