use Rattle.tick.specs.Tick.{line}
use Rattle.tick.proofs.flags.line.Goals as goal

pub returns : goal.returns
unfolding line
returns c = c.bit.ensures
