use Rattle.counter.specs.Registers.{written_a}
use Rattle.counter.proofs.state.Timer.write_tccra.Goals as goal

pub returns-then-is_split : goal.returns-then-is_split
unfolding written_a
returns-then-is_split c = rw (← c.is_split.ensures, c.if-is_split.true, ← c.stored_tccra-tccra.ensures, ← c.strobes-forces.ensures, ← c.configured.ensures) c.driven.ensures

pub returns-else-is_split : goal.returns-else-is_split
unfolding written_a
returns-else-is_split c = rw (← c.is_split.ensures, c.if-is_split.false, ← c.stored_tccra-tccra.ensures, ← c.strobes-forces.ensures, ← c.configured-else-is_split.ensures) c.driven-else-is_split.ensures
