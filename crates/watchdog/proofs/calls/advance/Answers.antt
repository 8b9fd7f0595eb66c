use Rattle.std.proofs.Common.{rules}
use Rattle.watchdog.proofs.Outcomes.{came}
use Rattle.watchdog.proofs.calls.advance.Goals as goal

pub returns : goal.returns
returns c = came _ _ _ c.requires (search rules) c.advance-advanced.ensures (search rules)
