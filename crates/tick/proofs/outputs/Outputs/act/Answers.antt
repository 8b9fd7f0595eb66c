use Rattle.tick.specs.Outputs.{acted}
use Rattle.tick.proofs.outputs.Outputs.act.Goals as goal

pub returns : goal.returns
unfolding acted
returns c = c.apply.ensures
