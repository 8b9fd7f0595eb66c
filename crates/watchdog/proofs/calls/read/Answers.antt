use Rattle.std.proofs.Common.{rules}
use Rattle.watchdog.specs.Calls.{refusal_of, performed}
use Rattle.watchdog.proofs.Outcomes.{accepted}
use Rattle.watchdog.proofs.calls.read.Goals as goal

pub returns : goal.returns
unfolding refusal_of performed
returns c = λ area. accepted _ _ _ _ c.requires (search rules) (search rules)
