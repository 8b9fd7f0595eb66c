use Prim.Native.Nat.{◌+◌, ◌-◌, ◌<◌, ◌≤◌}
use native.Mathlib.Omega.{arith}
use mathlib.Core.Path.{refl, ◌∙◌}
use lib.ListN.{length}
use Rattle.passage.proofs.Loops.{lags-begin, lags-sound, lags-gap, lags-near, lags-event, lags-turn, goes, gap-small, near-cycle, ran}
use Rattle.passage.proofs.Progress.run.Goals as goal

pub loop-gap-init : goal.loop-gap-init
loop-gap-init c = (lags-begin c.args.area.now c.requires, refl, refl)

pub overflow_cast-gap : goal.overflow_cast-gap
overflow_cast-gap c = record { fits = omega (arith, gap-small c.loop-gap.invariant.0.going) }

pub overflow_sub-end : goal.overflow_sub-end
overflow_sub-end c = c.loop-gap.invariant.0.going.ready.upto

pub overflow_sub-area : goal.overflow_sub-area
overflow_sub-area c = omega (arith, c.loop-gap.invariant.0.going.ready.bytes, c.loop-gap.invariant.0.going.long)

pub skip-near-requires : goal.skip-near-requires
skip-near-requires c = ((lags-sound c.loop-gap.invariant.0).steady, omega (arith, lags-gap c.loop-gap.invariant.0))

pub overflow_cast-tick : goal.overflow_cast-tick
overflow_cast-tick c = record { fits = omega (arith, gap-small c.loop-gap.invariant.0.going) }

pub overflow_add-tick : goal.overflow_add-tick
overflow_add-tick c = let on : (c.loop-gap.gap < c.args.end.0 - c.loop-gap.at) × (110 ≤ length c.loop-gap.area - c.loop-gap.to) = goes c.loop-gap.invariant.0.going c.loop-gap-test.true in record { fits = omega (arith, on, c.loop-gap.invariant.0.going.ready.ticks) }

pub overflow_add-tick-in-loop-gap : goal.overflow_add-tick-in-loop-gap
overflow_add-tick-in-loop-gap c = let on : (c.loop-gap.gap < c.args.end.0 - c.loop-gap.at) × (110 ≤ length c.loop-gap.area - c.loop-gap.to) = goes c.loop-gap.invariant.0.going c.loop-gap-test.true in record { fits = omega (arith, on, c.loop-gap.invariant.0.going.ready.ticks) }

pub cycle-requires : goal.cycle-requires
cycle-requires c = let on : (c.loop-gap.gap < c.args.end.0 - c.loop-gap.at) × (110 ≤ length c.loop-gap.area - c.loop-gap.to) = goes c.loop-gap.invariant.0.going c.loop-gap-test.true in near-cycle c.loop-gap.invariant.0.going (c.loop-gap.at + c.loop-gap.gap + 1) (omega (arith, on))

pub tick-t-requires : goal.tick-t-requires
tick-t-requires c = let on : (c.loop-gap.gap < c.args.end.0 - c.loop-gap.at) × (110 ≤ length c.loop-gap.area - c.loop-gap.to) = goes c.loop-gap.invariant.0.going c.loop-gap-test.true in (lags-near c.loop-gap.invariant.0 c.skip-near.ensures, omega (arith, on, c.loop-gap.invariant.0.going.ready.bytes, c.loop-gap.invariant.0.going.long))

pub dialled-m-requires : goal.dialled-m-requires
dialled-m-requires c = (lags-event c.loop-gap.invariant.0 c.skip-near.ensures c.tick-t.ensures.moving).steady.turns

pub gap-gap-requires : goal.gap-gap-requires
gap-gap-requires c = rw c.dialled-m.ensures (lags-event c.loop-gap.invariant.0 c.skip-near.ensures c.tick-t.ensures.moving).steady.count

pub loop-gap-smaller : goal.loop-gap-smaller
loop-gap-smaller c = let on : (c.loop-gap.gap < c.args.end.0 - c.loop-gap.at) × (110 ≤ length c.loop-gap.area - c.loop-gap.to) = goes c.loop-gap.invariant.0.going c.loop-gap-test.true in omega (arith, on)

pub loop-gap-preserved : goal.loop-gap-preserved
loop-gap-preserved c = let on : (c.loop-gap.gap < c.args.end.0 - c.loop-gap.at) × (110 ≤ length c.loop-gap.area - c.loop-gap.to) = goes c.loop-gap.invariant.0.going c.loop-gap-test.true in (lags-turn c.loop-gap.invariant.0 (on) c.skip-near.ensures c.cycle.ensures c.tick-t.ensures (c.dialled-m.ensures ∙ rw c.loop-gap.invariant.1) c.gap-gap.ensures, c.loop-gap.invariant.1, c.loop-gap.invariant.2)

pub overflow_sub-at : goal.overflow_sub-at
overflow_sub-at c = omega (arith, c.loop-gap.invariant.0.on, c.loop-gap.invariant.2)

pub dialled-requires : goal.dialled-requires
dialled-requires c = (lags-sound c.loop-gap.invariant.0).steady.turns

pub returns : goal.returns
returns c = rw (c.dialled.ensures, c.counted.ensures, c.loop-gap.invariant.1, c.loop-gap.invariant.2) (ran c.loop-gap.invariant.0.going c.loop-gap-test.false)
