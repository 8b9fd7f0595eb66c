-- What a scene tells of the next event is the distance and its flags: the statement, proved in proofs/.
use Rattle.std.specs.Prelude.{◌≡◌}
use Rattle.wave.specs.Count.{falls}
use Rattle.tick.specs.declared.setting.Moving.{Moving}
use Rattle.tick.specs.declared.setting.Setting.{Setting}
use Rattle.tick.specs.Distance.{flags_ahead}
use Rattle.tick.specs.Skip.{distance}
use Rattle.scene.specs.Scene.{Apart, scene_of}
use Rattle.scene.specs.Laws.{top_now}
use Rattle.coming.specs.Coming.{coming_of}

abbrev pub ComingIs : Type 0
ComingIs = (s : Setting) (m : Moving) → Apart s → coming_of (scene_of s) (falls s.wave m.counter) m.counter (top_now s m) m.ocr ≡ record { ticks = distance s.wave m; flags = flags_ahead s m }
