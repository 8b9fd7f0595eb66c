use mathlib.Core.Path.{refl}
use Rattle.tick.specs.Skip.{linear}
use Rattle.tick.proofs.Bounds.{gap-moves}
use Rattle.tick.proofs.setting.Moving.skip.Goals as goal

pub skip-counter-requires : goal.skip-counter-requires
skip-counter-requires c = (c.requires.0.turns, gap-moves c.args.wave c.args.self c.args.n _ c.requires.0 c.requires.1 refl)

pub returns : goal.returns
unfolding linear
returns c = simp c.skip-counter.ensures
