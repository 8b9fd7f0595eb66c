use Rattle.counter.specs.Registers.{compare_to}
use Rattle.counter.proofs.state.Timer.with_compare.Goals as goal

pub returns-then-immediate : goal.returns-then-immediate
unfolding compare_to
returns-then-immediate c = simp (← c.immediate.ensures, c.if-immediate.true)

pub returns-else-immediate : goal.returns-else-immediate
unfolding compare_to
returns-else-immediate c = simp (← c.immediate.ensures, c.if-immediate.false)
