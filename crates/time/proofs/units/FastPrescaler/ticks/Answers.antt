use mathlib.Core.Path.{refl}
use borrow.Author.Rules.{rules}
use Rattle.time.specs.Units.{ticks_at}
use Rattle.time.proofs.units.FastPrescaler.ticks.Goals as goal

pub returns : goal.returns
unfolding ticks_at
returns c = refl
