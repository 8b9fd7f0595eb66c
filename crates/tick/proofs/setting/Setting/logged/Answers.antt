use mathlib.Core.Path.{refl}
use Rattle.tick.proofs.Ticks.{tick-logged}
use Rattle.tick.proofs.setting.Setting.logged.Goals as goal

pub returns : goal.returns
returns c = tick-logged refl c.tick-t.ensures
