use mathlib.Core.Path.{◌∙◌}
use Rattle.counter.proofs.Advances.{setting-is}
use Rattle.counter.proofs.Bounds.{valid-sound}
use Rattle.counter.proofs.state.Timer.distance.Goals as goal

pub distance-requires : goal.distance-requires
distance-requires c = rw (setting-is c.args.self c.mode-mode.ensures.0 c.wave_at-wave.ensures c.setting.ensures, c.moving.ensures) (valid-sound c.args.self c.requires).steady

pub returns : goal.returns
returns c = c.distance.ensures ∙ rw (setting-is c.args.self c.mode-mode.ensures.0 c.wave_at-wave.ensures c.setting.ensures, c.moving.ensures)
