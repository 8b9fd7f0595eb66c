use Rattle.strike.proofs.Climbs.{fit-here, fit-moved}
use borrow.Author.Tests.{leb-true}
use mathlib.Core.Path.{sym}
use Rattle.strike.proofs.Climbs.{all-begin, all-wrote, all-stopped, all-reached, fit-placed}
use mathlib.Core.Path.{refl, ◌∙◌}
use native.Mathlib.Omega.{arith}
use Prim.Native.Nat.{◌+◌}
use Rattle.strike.proofs.Rise.closes.Goals as goal

pub loop-r-init : goal.loop-r-init
loop-r-init c = (refl, c.requires.0, all-begin c.args.shift)

pub aside-a-requires : goal.aside-a-requires
aside-a-requires c = (fit-here c.loop-r.invariant.1, omega (arith, c.loop-r-test.true, c.requires.1))

pub write-requires : goal.write-requires
write-requires c = (c.aside-a.ensures.2, c.loop-r.invariant.1.place)

pub overflow_add-r : goal.overflow_add-r
overflow_add-r c = record { fits = omega (arith, c.loop-r.invariant.1.place, c.loop-r.invariant.0, c.aside-a.ensures.2, c.well_formed.1.1.1.1.0) }

pub loop-r-smaller : goal.loop-r-smaller
loop-r-smaller c = omega (arith, c.loop-r-test.true, c.aside-a.ensures.1)

pub loop-r-preserved : goal.loop-r-preserved
loop-r-preserved c = (c.write.auto.area ∙ c.loop-r.invariant.0, fit-moved c.write.auto.area (fit-placed (c.loop-r.r.to + c.aside-a.result.log.len) c.aside-a.ensures.0 (leb-true _ _ (sym c.write.ensures.0 ∙ c.if-write.true))), all-wrote c.args.shift c.loop-r.invariant.2 c.loop-r-test.true c.aside-a.ensures.3 c.write.ensures.0 c.write.ensures.1 c.if-write.true)

pub returns-else-write : goal.returns-else-write
returns-else-write c = (fit-moved c.write.auto.area c.loop-r.invariant.1, all-stopped c.args.shift c.loop-r.invariant.2 c.loop-r-test.true c.aside-a.ensures.3 c.write.ensures.0 c.write.ensures.1 c.if-write.false)

pub returns : goal.returns
returns c = (c.loop-r.invariant.1, all-reached c.args.shift c.loop-r.invariant.2 c.loop-r-test.false)
