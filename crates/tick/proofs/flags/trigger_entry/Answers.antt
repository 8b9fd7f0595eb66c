use mathlib.Core.Path.{refl}
use Rattle.tick.specs.Tick.{trigger_entry}
use Rattle.tick.proofs.flags.trigger_entry.Goals as goal

pub returns : goal.returns
unfolding trigger_entry
returns c = refl
