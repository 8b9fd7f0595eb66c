use Rattle.counter.proofs.Logging.{logs-driven}
use Rattle.counter.proofs.Advances.{setting-is}
use mathlib.Core.Path.{refl}
use Rattle.counter.proofs.state.Timer.driven.Goals as goal

pub returns : goal.returns
returns c = logs-driven c.args.self c.args.again c.args.forces c.args.cycle.0 (setting-is c.args.self c.mode-mode.ensures.0 c.wave_at-wave.ensures c.setting-s.ensures) c.forced-e.ensures refl c.drive-o.ensures
