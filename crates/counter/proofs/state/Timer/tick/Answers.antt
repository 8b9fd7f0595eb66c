use mathlib.Core.Path.{◌≡◌}
use Rattle.counter.specs.Setting.{setting_of}
use Rattle.counter.proofs.Bounds.{valid-sound}
use Rattle.counter.proofs.Advances.{setting-is, strikes}
use Rattle.counter.proofs.state.Timer.tick.Goals as goal

pub logged-t-requires : goal.logged-t-requires
logged-t-requires c = let is-setting : c.setting-s.result ≡ setting_of c.args.self = setting-is c.args.self c.mode-mode.ensures.0 c.wave_at-wave.ensures c.setting-s.ensures in rw (is-setting, c.moving-moving.ensures) (valid-sound c.args.self c.requires)

pub returns : goal.returns
returns c = let is-setting : c.setting-s.result ≡ setting_of c.args.self = setting-is c.args.self c.mode-mode.ensures.0 c.wave_at-wave.ensures c.setting-s.ensures in strikes c.args.self c.args.cycle.0 (is-setting) c.moving-moving.ensures c.logged-t.ensures c.settled.ensures
