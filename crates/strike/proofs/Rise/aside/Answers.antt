use Rattle.strike.proofs.Climbs.{fit-placed, fit-moved, all_made}
use mathlib.Core.Path.{refl, sym}
use native.Mathlib.Nat.{le_refl}
use native.Mathlib.Omega.{arith}
use Rattle.strike.proofs.Rise.aside.Goals as goal

pub climbs-after-requires : goal.climbs-after-requires
climbs-after-requires c = (fit-placed 0 c.requires.0 (omega arith), c.requires.1)

pub returns : goal.returns
returns c =
    let w = c.climbs-after.ensures.2 refl (le_refl 110) in
    (fit-moved (sym c.climbs-after.auto.area) c.climbs-after.ensures.0, w.later, w.most, all_made c.args.shift refl c.climbs-after.auto.area w.struck)
