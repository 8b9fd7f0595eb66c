use Prim.Native.Nat.{◌+◌}
use Rattle.strike.proofs.Strikes.{Loads, loaded, unloaded, Drove, drove, undriven, drove-long, near_fits, way-fits, after-max, strikes}
use native.Mathlib.Omega.{arith}
use Rattle.strike.proofs.Rise.first.Goals as goal
use Rattle.strike.proofs.Rise.first.Goals.{then-bottom, else-bottom, then-s, else-s}

pub overflow_add-near : goal.overflow_add-near
overflow_add-near c = record { fits = omega (arith, c.requires.0.near, c.requires.0.most) }

pub after-count-requires : goal.after-count-requires
after-count-requires c = c.requires.0.near

pub climb-way-requires : goal.climb-way-requires
climb-way-requires c = rw c.after-count.ensures (after-max c.args.s (c.args.self.count + c.args.self.gap) c.args.self.top c.requires.0.near)

pub driven-o-requires : goal.driven-o-requires
driven-o-requires c = omega (arith, c.requires.2)

pub overflow_shl-result : goal.overflow_shl-result
overflow_shl-result c = omega (arith, c.requires.0.steps)

pub overflow_add-result-2 : goal.overflow_add-result-2
overflow_add-result-2 c =
    let loads : Loads c.args.s c.args.self c.if-bottom.limit c.if-bottom.active =
    elim c.if-bottom.branch [
      | then-bottom w ↦ loaded w.if-bottom.true w.limit-limit.ensures w.limit-is w.active-is
      | else-bottom w ↦ unloaded w.if-bottom.false w.limit-is w.active-is
    ] in
    record { fits = omega (arith, way-fits c.requires.0 c.after-count.ensures loads c.climb-way.ensures, c.requires.1) }

pub told-requires : goal.told-requires
told-requires c =
    let drives : Drove c.args.s c.args.self c.args.area.now c.if-s.oc c.if-s.drives c.if-s.to c.if-s.area =
    elim c.if-s.branch [
      | then-s w ↦ drove w.driven-o.ensures w.area-is w.oc-is w.drives-is w.to-is
      | else-s w ↦ undriven w.if-s.false w.area-is w.oc-is w.drives-is w.to-is
    ] in
    omega (arith, drives.most, drove-long drives, c.requires.2)

pub overflow_add-count : goal.overflow_add-count
overflow_add-count c =
    let loads : Loads c.args.s c.args.self c.if-bottom.limit c.if-bottom.active =
    elim c.if-bottom.branch [
      | then-bottom w ↦ loaded w.if-bottom.true w.limit-limit.ensures w.limit-is w.active-is
      | else-bottom w ↦ unloaded w.if-bottom.false w.limit-is w.active-is
    ] in
    record { fits = omega (arith, near_fits c.requires.0 c.after-count.ensures loads c.climb-way.ensures, c.requires.0.most) }

pub returns : goal.returns
returns c =
    let loads : Loads c.args.s c.args.self c.if-bottom.limit c.if-bottom.active =
    elim c.if-bottom.branch [
      | then-bottom w ↦ loaded w.if-bottom.true w.limit-limit.ensures w.limit-is w.active-is
      | else-bottom w ↦ unloaded w.if-bottom.false w.limit-is w.active-is
    ] in
    let drives : Drove c.args.s c.args.self c.args.area.now c.if-s.oc c.if-s.drives c.if-s.to c.if-s.area =
    elim c.if-s.branch [
      | then-s w ↦ drove w.driven-o.ensures w.area-is w.oc-is w.drives-is w.to-is
      | else-s w ↦ undriven w.if-s.false w.area-is w.oc-is w.drives-is w.to-is
    ] in
    strikes c.args.shift c.requires c.after-count.ensures loads c.climb-way.ensures drives c.told.ensures c.raised.ensures
