use mathlib.Core.Path.{refl}
use Rattle.held.proofs.state.held_of.Goals as goal

pub wave_at-wave-requires : goal.wave_at-wave-requires
wave_at-wave-requires c = c.mode-mode.ensures.1

pub foreseen-e-requires : goal.foreseen-e-requires
foreseen-e-requires c = (c.requires, simp (c.setting.ensures, c.wave_at-wave.ensures, c.mode-mode.ensures.0) at c.scene_of-scene.ensures, simp (c.wave_at-wave.ensures, c.mode-mode.ensures.0) at c.top-top.ensures, simp (c.wave_at-wave.ensures, c.mode-mode.ensures.0) at c.falls-down.ensures)

pub returns : goal.returns
returns c = let f = c.foreseen-e.ensures in (refl, record { valid = c.requires; next = f.next; flags = f.flags; shift = f.shift; idle = f.idle; small = f.small; down = simp (c.wave_at-wave.ensures, c.mode-mode.ensures.0) at c.falls-down.ensures; scene = simp (c.setting.ensures, c.wave_at-wave.ensures, c.mode-mode.ensures.0) at c.scene_of-scene.ensures; top = simp (c.wave_at-wave.ensures, c.mode-mode.ensures.0) at c.top-top.ensures })
