use Rattle.std.proofs.Common.{rules}
use Rattle.watchdog.specs.Calls.{refusal_of, performed}
use Rattle.watchdog.proofs.Outcomes.{turned_away, accepted}
use Rattle.watchdog.proofs.calls.write.Goals as goal

pub returns : goal.returns
unfolding refusal_of performed
returns c = λ area. accepted _ _ _ _ c.requires (search rules) (search rules)

pub returns-then-too_long : goal.returns-then-too_long
unfolding refusal_of
returns-then-too_long c = λ area. turned_away _ _ _ _ c.requires (search rules)
