use native.Mathlib.Omega.{arith}
use Rattle.tick.specs.Distance.{flags_ahead}
use Rattle.tick.specs.Skip.{linear}
use Rattle.tick.proofs.Bounds.{gap-max}
use Rattle.tick.proofs.setting.Setting.distance.Goals as goal

pub skip-near-requires : goal.skip-near-requires
skip-near-requires c = (c.requires, rw c.search-found.ensures (omega arith))

pub overflow_add-result : goal.overflow_add-result
overflow_add-result c = record { fits = rw c.search-found.ensures (omega (arith, gap-max _ _ c.requires, c.requires.most)) }

pub returns : goal.returns
unfolding flags_ahead linear
returns c = simp (c.raised.ensures, c.events-e.ensures, c.top.ensures, c.skip-near.ensures, c.search-found.ensures)
