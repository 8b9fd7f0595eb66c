use Rattle.counter.specs.Registers.{strobes}
use Rattle.counter.proofs.state.Timer.strobes.Goals as goal

pub returns-then-config-address : goal.returns-then-config-address
unfolding strobes
returns-then-config-address c = simp (← c.is_bare.ensures, c.if-config-address.true)

pub returns-else-config-address : goal.returns-else-config-address
unfolding strobes
returns-else-config-address c = simp (← c.is_bare.ensures, c.if-config-address.false)
