use Rattle.strike.proofs.Climbs.{all-begin, all-struck, all-climbed, goes_on, turns-struck, turns-lone}
use mathlib.Core.Logic.{inl}
use mathlib.Core.Path.{refl, ◌∙◌}
use native.Mathlib.Omega.{arith}
use Prim.Native.Nat.{◌-◌, ◌≤◌}
use lib.ListN.{length}
use Rattle.strike.proofs.Rise.climbs.Goals as goal

pub loop-r-init : goal.loop-r-init
loop-r-init c = (refl, c.requires.0, all-begin c.args.shift, inl (refl, refl))

pub overflow_sub-area : goal.overflow_sub-area
overflow_sub-area c = c.loop-r.invariant.1.place

pub strike-r-requires : goal.strike-r-requires
strike-r-requires c = let on : (c.loop-r.r.next ≤ c.args.cycle) × (110 ≤ length c.loop-r.area - c.loop-r.r.to) = goes_on _ _ _ c.loop-r-test.true in (c.loop-r.invariant.1, omega (arith, on, c.requires.1), omega (arith, on, c.loop-r.invariant.1.place))

pub loop-r-smaller : goal.loop-r-smaller
loop-r-smaller c = let on : (c.loop-r.r.next ≤ c.args.cycle) × (110 ≤ length c.loop-r.area - c.loop-r.r.to) = goes_on _ _ _ c.loop-r-test.true in omega (arith, on, c.strike-r.ensures.1)

pub loop-r-preserved : goal.loop-r-preserved
loop-r-preserved c = let on : (c.loop-r.r.next ≤ c.args.cycle) × (110 ≤ length c.loop-r.area - c.loop-r.r.to) = goes_on _ _ _ c.loop-r-test.true in (c.strike-r.auto.area ∙ c.loop-r.invariant.0, c.strike-r.ensures.0, all-struck c.args.shift c.loop-r.invariant.2 (on).0 (on).1 c.strike-r.ensures.3, turns-struck c.loop-r.invariant.3 (on).0 c.strike-r.ensures.1 c.strike-r.ensures.2 c.strike-r.ensures.3)

pub returns : goal.returns
returns c = (c.loop-r.invariant.1, all-climbed c.args.shift c.loop-r.invariant.2, turns-lone c.loop-r.invariant.3 c.loop-r-test.false)
