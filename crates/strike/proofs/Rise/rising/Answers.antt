use native.Mathlib.Omega.{arith}
use Rattle.strike.proofs.Climbs.{one-rose, all-rose}
use Rattle.strike.proofs.Rise.rising.Goals as goal

pub first-first-requires : goal.first-first-requires
first-first-requires c = (c.requires.0, omega (arith, c.requires.1, c.requires.2), c.requires.3)

pub returns-then-cycle-first : goal.returns-then-cycle-first
returns-then-cycle-first c = (c.first-first.ensures.0, one-rose c.args.shift c.requires.1 c.requires.2 c.requires.3 c.first-first.ensures.3 c.if-cycle-first.true)

pub climbs-requires : goal.climbs-requires
climbs-requires c = (c.first-first.ensures.0, c.requires.2)

pub closes-requires : goal.closes-requires
closes-requires c = (c.climbs.ensures.0, c.requires.2)

pub returns : goal.returns
returns c = (c.closes.ensures.0, all-rose c.args.shift c.requires.1 c.requires.2 c.requires.3 c.first-first.ensures.3 c.climbs.auto.area c.climbs.ensures.1 c.closes.ensures.1)
