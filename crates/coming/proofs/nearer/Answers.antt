use Rattle.std.proofs.Common.{◌≡◌, ◌<◌, min, true, rules}
use Rattle.coming.proofs.Ways.{way-taken, way-left}
use Rattle.wave.proofs.Searches.{nearer-falling, nearer-rising}
use Rattle.wave.specs.Distance.{ahead}
use Rattle.coming.proofs.nearer.Goals as goal
use Rattle.coming.proofs.nearer.Goals.{then-down, else-down}

-- the way, no farther than all there are
pub returns-then-present-way : goal.returns-then-present-way
returns-then-present-way c =
    let p = c.requires in
    let near : min c.args.all c.if-down.way' ≡ min c.args.all (ahead true c.args.down c.args.count c.args.compare c.args.all) =
    elim c.if-down.branch [
      | then-down w ↦
          let l : w.wrapping_sub_u32-way.result < 4294967296 = search rules in
          rw (w.if-down.true, w.way'-is) (nearer-falling c.args.count c.args.compare w.wrapping_sub_u32-way.result c.args.all c.ranges.count.fits c.ranges.compare.fits l w.wrapping_sub_u32-way.ensures.value (rw w.if-down.true at p))
      | else-down w ↦
          let l : w.wrapping_sub_u32-way-else-down.result < 4294967296 = search rules in
          rw (w.if-down.false, w.way'-is) (nearer-rising c.args.count c.args.compare w.wrapping_sub_u32-way-else-down.result c.args.all c.ranges.count.fits c.ranges.compare.fits l w.wrapping_sub_u32-way-else-down.ensures.value (rw w.if-down.false at p))
    ] in
    way-taken c.args.present c.args.down c.args.count c.args.compare c.if-down.way' c.args.all c.if-present-way.true near

pub returns-else-present-way : goal.returns-else-present-way
returns-else-present-way c =
    let p = c.requires in
    let near : min c.args.all c.if-down.way' ≡ min c.args.all (ahead true c.args.down c.args.count c.args.compare c.args.all) =
    elim c.if-down.branch [
      | then-down w ↦
          let l : w.wrapping_sub_u32-way.result < 4294967296 = search rules in
          rw (w.if-down.true, w.way'-is) (nearer-falling c.args.count c.args.compare w.wrapping_sub_u32-way.result c.args.all c.ranges.count.fits c.ranges.compare.fits l w.wrapping_sub_u32-way.ensures.value (rw w.if-down.true at p))
      | else-down w ↦
          let l : w.wrapping_sub_u32-way-else-down.result < 4294967296 = search rules in
          rw (w.if-down.false, w.way'-is) (nearer-rising c.args.count c.args.compare w.wrapping_sub_u32-way-else-down.result c.args.all c.ranges.count.fits c.ranges.compare.fits l w.wrapping_sub_u32-way-else-down.ensures.value (rw w.if-down.false at p))
    ] in
    way-left c.args.present c.args.down c.args.count c.args.compare c.if-down.way' c.args.all c.if-present-way.false near
