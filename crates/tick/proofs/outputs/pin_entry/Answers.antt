use mathlib.Core.Path.{refl}
use Rattle.tick.specs.Outputs.{pin_entry}
use Rattle.tick.proofs.outputs.pin_entry.Goals as goal

pub returns : goal.returns
unfolding pin_entry
returns c = refl
