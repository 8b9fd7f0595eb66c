use Rattle.counter.specs.Registers.{committed}
use Rattle.counter.proofs.state.Timer.committed.Goals as goal

pub returns-then-config : goal.returns-then-config
unfolding committed
returns-then-config c = simp c.if-config.true

pub returns-else-config : goal.returns-else-config
unfolding committed
returns-else-config c = simp c.if-config.false
