use Rattle.writes.proofs.Rests.{answered-within, inside, inside_both, stopped, both}
use native.Mathlib.Omega.{arith}
use Rattle.writes.proofs.work.Goals as goal

pub returns-then-stops : goal.returns-then-stops
returns-then-stops c = stopped c.args.t c.args.item c.args.area.now c.advance-a.ensures c.stops.ensures c.if-stops.true

pub slice_bounds-write-count : goal.slice_bounds-write-count
slice_bounds-write-count c = inside (answered-within _ _ _ _ _) c.advance-a.ensures

pub slice_bounds-write-start : goal.slice_bounds-write-start
slice_bounds-write-start c = inside (answered-within _ _ _ _ _) c.advance-a.ensures

pub overflow_add-result : goal.overflow_add-result
overflow_add-result c = record { fits = omega (arith, inside_both c.advance-a.result.written c.advance-a.new.area (inside (answered-within _ _ _ _ _) c.advance-a.ensures) (answered-within _ _ _ _ _) c.write-w.ensures c.write-w.auto.area, c.advance-a.auto.area, c.well_formed.1.1.0) }

pub returns : goal.returns
returns c = both c.args.t c.args.item c.args.area.now c.advance-a.ensures c.stops.ensures c.if-stops.false c.write-w.ensures
