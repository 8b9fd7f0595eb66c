use Rattle.std.proofs.Common.{◌≡◌, ◌<◌, min, ◌∙◌, arith, rules}
use Rattle.scene.specs.Scene.{nearer_of}
use Rattle.wave.proofs.Searches.{nearer-rising}
use Rattle.wave.specs.Distance.{ahead}
use Rattle.scene.proofs.state.nearer.Goals as goal
use Rattle.scene.proofs.state.nearer.Goals.{then-present, else-present}

-- the way, no farther than all there are
pub returns-then-way-all : goal.returns-then-way-all
unfolding ahead
returns-then-way-all c =
    let near : min c.args.all c.if-present.way' ≡ nearer_of c.args.present c.args.count c.args.compare c.args.all =
    elim c.if-present.branch [
      | then-present w ↦
          let l : w.wrapping_sub_u32-way.result < 4294967296 = search rules in
          rw (w.if-present.true, w.way'-is) (nearer-rising c.args.count c.args.compare w.wrapping_sub_u32-way.result c.args.all c.ranges.count.fits c.ranges.compare.fits l w.wrapping_sub_u32-way.ensures.value c.requires)
      | else-present w ↦ rw (w.if-present.false, w.way'-is)
    ] in
    let e : c.if-present.way' ≡ min c.args.all c.if-present.way' = omega (arith, c.if-way-all.true) in
    (e ∙ near, c.if-way-all.true)

pub returns-else-way-all : goal.returns-else-way-all
unfolding ahead
returns-else-way-all c =
    let near : min c.args.all c.if-present.way' ≡ nearer_of c.args.present c.args.count c.args.compare c.args.all =
    elim c.if-present.branch [
      | then-present w ↦
          let l : w.wrapping_sub_u32-way.result < 4294967296 = search rules in
          rw (w.if-present.true, w.way'-is) (nearer-rising c.args.count c.args.compare w.wrapping_sub_u32-way.result c.args.all c.ranges.count.fits c.ranges.compare.fits l w.wrapping_sub_u32-way.ensures.value c.requires)
      | else-present w ↦ rw (w.if-present.false, w.way'-is)
    ] in
    let e : c.args.all ≡ min c.args.all c.if-present.way' = omega (arith, c.if-way-all.false) in
    (e ∙ near, omega arith)
