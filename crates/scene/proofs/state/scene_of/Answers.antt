use Rattle.scene.specs.Scene.{scene_of}
use Rattle.scene.proofs.state.scene_of.Goals as goal

pub returns : goal.returns
unfolding scene_of
returns c = simp (c.fast_pwm.ensures, c.ends_at_top.ensures, c.drives.ensures, c.drives-2.ensures, c.drives-3.ensures, c.masked.ensures)
