use Rattle.held.specs.Held.{code_of, flags_in}
use Rattle.orders.proofs.told_of.Goals as goal

pub returns-in-At : goal.returns-in-At
unfolding code_of flags_in
returns-in-At c = rw (c.stood.ensures, ← c.next-next.ensures, c.in-At.is)

pub returns-in-Never : goal.returns-in-Never
unfolding code_of flags_in
returns-in-Never c = rw (c.stood-in-Never.ensures, ← c.next-next.ensures, c.in-Never.is)
