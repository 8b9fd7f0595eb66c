use Rattle.renewing.proofs.Renews.{reset-right}
use mathlib.Core.Path.{refl}
use Rattle.renewing.proofs.resets.resetting.Goals as goal

pub returns : goal.returns
returns c = reset-right c.args.h c.args.cycle c.requires.0 c.requires.1 c.args.area.now c.reset-w.ensures c.write.ensures refl c.accepted.ensures c.cleared.ensures refl
