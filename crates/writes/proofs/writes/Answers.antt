use Rattle.writes.proofs.Lists.{begins, goes_on, uneven, stops-there, all_done}
use Rattle.writes.proofs.Rests.{worked-within, inside_both}
use native.Mathlib.Omega.{arith}
use Rattle.writes.proofs.writes.Goals as goal

pub returns-then-list-ne0 : goal.returns-then-list-ne0
returns-then-list-ne0 c = uneven _ _ _ c.requires c.if-list-ne0.true

pub loop-done-init : goal.loop-done-init
loop-done-init c = begins _ _ _ c.requires

pub overflow_mul-done : goal.overflow_mul-done
overflow_mul-done c = record { fits = omega (arith, c.well_formed.1.0) }

pub at-requires : goal.at-requires
at-requires c = omega arith

pub slice_bounds-work-count : goal.slice_bounds-work-count
slice_bounds-work-count c = c.loop-done.invariant.room

pub work-o-requires : goal.work-o-requires
work-o-requires c = c.loop-done.invariant.valid

pub overflow_add-to : goal.overflow_add-to
overflow_add-to c = record { fits = omega (arith, inside_both c.loop-done.to c.loop-done.area c.loop-done.invariant.room (worked-within _ _ _ _) c.work-o.ensures c.work-o.auto.area, c.loop-done.invariant.long, c.well_formed.1.1.0) }

pub returns-then-stops : goal.returns-then-stops
returns-then-stops c = stops-there _ _ _ _ _ _ _ c.if-list-ne0.false c.loop-done.invariant (omega arith) c.at.ensures c.work-o.ensures c.stops.ensures c.if-stops.true c.of.ensures

pub overflow_add-done : goal.overflow_add-done
overflow_add-done c = record { fits = omega (arith, c.well_formed.1.0) }

pub loop-done-smaller : goal.loop-done-smaller
loop-done-smaller c = omega arith

pub loop-done-preserved : goal.loop-done-preserved
loop-done-preserved c = goes_on _ _ _ _ _ _ _ c.loop-done.invariant (omega arith) c.at.ensures c.work-o.ensures c.stops.ensures c.if-stops.false c.work-o.auto.area

pub returns : goal.returns
returns c = all_done _ _ _ _ _ _ _ c.if-list-ne0.false c.loop-done.invariant (omega arith)
