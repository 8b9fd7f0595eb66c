use Prim.Native.Nat.{◌-◌, ◌<◌}
use native.Mathlib.Omega.{arith}
use mathlib.Core.Path.{refl}
use Rattle.passage.proofs.Loops.{begins, gap-small, aside-ready, wrote, halted, ended}
use Rattle.passage.proofs.Progress.finish.Goals as goal

pub loop-r-init : goal.loop-r-init
loop-r-init c = (refl, begins c.args.area.now c.requires)

pub overflow_cast-r : goal.overflow_cast-r
overflow_cast-r c = record { fits = omega (arith, gap-small c.loop-r.invariant.1) }

pub overflow_sub-end : goal.overflow_sub-end
overflow_sub-end c = omega (arith, c.loop-r.invariant.0, c.loop-r.invariant.1.ready.upto)

pub aside-next-requires : goal.aside-next-requires
aside-next-requires c = let on : c.loop-r.r.gap < c.args.end.0 - c.loop-r.r.at.0 = omega (arith, c.loop-r.invariant.0, c.loop-r-test.true) in aside-ready c.loop-r.invariant.1 (on)

pub write-requires : goal.write-requires
write-requires c = (c.aside-next.ensures.len, omega (arith, c.loop-r.invariant.1.ready.bytes, c.loop-r.invariant.1.long))

pub overflow_add-r : goal.overflow_add-r
overflow_add-r c = record { fits = omega (arith, c.loop-r.invariant.1.ready.bytes, c.aside-next.ensures.len, c.well_formed.1.1.1.1.0) }

pub loop-r-smaller : goal.loop-r-smaller
loop-r-smaller c = let on : c.loop-r.r.gap < c.args.end.0 - c.loop-r.r.at.0 = omega (arith, c.loop-r.invariant.0, c.loop-r-test.true) in omega (arith, c.loop-r.invariant.0, on, c.aside-next.ensures.at)

pub loop-r-preserved : goal.loop-r-preserved
loop-r-preserved c = let on : c.loop-r.r.gap < c.args.end.0 - c.loop-r.r.at.0 = omega (arith, c.loop-r.invariant.0, c.loop-r-test.true) in (refl, wrote c.loop-r.invariant.1 (on) c.aside-next.ensures c.write.ensures.0 c.write.ensures.1 c.if-write.true)

pub skip-requires : goal.skip-requires
skip-requires c = (c.loop-r.invariant.1.ready.sound.steady, omega (arith, c.loop-r.invariant.1.ready.gap))

pub overflow_cast-result : goal.overflow_cast-result
overflow_cast-result c = record { fits = omega (arith, gap-small c.loop-r.invariant.1) }

pub overflow_add-result : goal.overflow_add-result
overflow_add-result c = record { fits = omega (arith, c.loop-r-test.true, c.loop-r.invariant.1.ready.ticks) }

pub returns-else-write : goal.returns-else-write
returns-else-write c = halted c.loop-r.invariant.1 c.loop-r.at c.loop-r.invariant.0 c.loop-r-test.true c.aside-next.ensures c.write.ensures.0 c.write.ensures.1 c.if-write.false c.skip.ensures

pub overflow_sub-end-2 : goal.overflow_sub-end-2
overflow_sub-end-2 c = omega (arith, c.loop-r.invariant.0, c.loop-r.invariant.1.ready.upto)

pub overflow_cast-end : goal.overflow_cast-end
overflow_cast-end c = record { fits = omega (arith, c.loop-r-test.false, gap-small c.loop-r.invariant.1) }

pub skip-requires-2 : goal.skip-requires-2
skip-requires-2 c = (c.loop-r.invariant.1.ready.sound.steady, omega (arith, c.loop-r-test.false, c.loop-r.invariant.1.ready.gap))

pub returns : goal.returns
returns c = ended c.loop-r.invariant.1 c.loop-r.at c.loop-r.invariant.0 c.loop-r-test.false c.skip-2.ensures
