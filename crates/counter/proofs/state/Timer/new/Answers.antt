use mathlib.Core.Path.{sym, ◌∙◌}
use Rattle.config.specs.Config.{least, least-accepted}
use Rattle.counter.specs.Fresh.{started_of}
use Rattle.counter.proofs.Keeps.{fresh-is-valid}
use Rattle.counter.proofs.state.Timer.new.Goals as goal

pub returns-then-is_accepted : goal.returns-then-is_accepted
unfolding started_of
returns-then-is_accepted c = let e = sym c.is_accepted.ensures ∙ c.if-is_accepted.true in (simp (e, c.fresh.ensures), rw c.fresh.ensures (fresh-is-valid _ e))

pub returns-else-is_accepted : goal.returns-else-is_accepted
unfolding started_of
returns-else-is_accepted c = let e = sym c.is_accepted.ensures ∙ c.if-is_accepted.false in (simp (e, c.fresh-else-is_accepted.ensures, c.least-least.ensures), rw (c.fresh-else-is_accepted.ensures, c.least-least.ensures) (fresh-is-valid least least-accepted))
