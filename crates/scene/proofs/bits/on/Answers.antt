use Rattle.scene.specs.Scene.{on}
use Rattle.std.proofs.Common.{refl}
use Rattle.scene.proofs.bits.on.Goals as goal

pub returns : goal.returns
unfolding on
returns c = refl
