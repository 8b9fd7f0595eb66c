use Rattle.counter.specs.Registers.{stored, configured}
use mathlib.Core.Path.{sym, ◌∙◌}
use Rattle.counter.proofs.state.Timer.configured.Goals as goal

pub returns-then-immediate : goal.returns-then-immediate
unfolding stored configured
returns-then-immediate c = let e = rw c.with_registers-t.ensures at (sym c.immediate.ensures ∙ c.if-immediate.true) in simp (c.with_registers-t.ensures, e)

pub returns-else-immediate : goal.returns-else-immediate
unfolding stored configured
returns-else-immediate c = let e = rw c.with_registers-t.ensures at (sym c.immediate.ensures ∙ c.if-immediate.false) in simp (c.with_registers-t.ensures, e)
