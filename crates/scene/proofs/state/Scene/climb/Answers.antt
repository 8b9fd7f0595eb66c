use Rattle.std.proofs.Common.{◌≡◌, ◌-◌, ◌<◌, ◌≤◌, false, arith, rules, le-leb}
use Rattle.scene.specs.Scene.{climb_at}
use Rattle.wave.proofs.Searches.{space-reach}
use Rattle.wave.specs.Distance.{space}
use borrow.Author.Tests.{lt-leb}
use Rattle.scene.proofs.state.Scene.climb.Goals as goal
use Rattle.scene.proofs.state.Scene.climb.Goals.{then-count-top, else-count-top}

-- the way to TOP, or to MAX from above TOP
pub nearer-c-requires : goal.nearer-c-requires
unfolding space
nearer-c-requires c =
    let all-is : c.if-count-top.all ≡ space false c.args.count c.args.top c.args.self.max =
    elim c.if-count-top.branch [ then-count-top w ↦ rw (le-leb _ _ w.if-count-top.true) w.all-is | else-count-top w ↦ rw (lt-leb _ _ w.if-count-top.false) w.all-is ] in
    let t : c.args.top < 4294967296 = search rules in
    let m : c.args.self.max < 4294967296 = search rules in
    let reaches : c.if-count-top.all ≤ 4294967295 - c.args.count = rw all-is (space-reach c.args.count c.args.top c.args.self.max c.requires t m) in
    reaches

pub nearer-b-requires : goal.nearer-b-requires
unfolding space
nearer-b-requires c =
    let all-is : c.if-count-top.all ≡ space false c.args.count c.args.top c.args.self.max =
    elim c.if-count-top.branch [ then-count-top w ↦ rw (le-leb _ _ w.if-count-top.true) w.all-is | else-count-top w ↦ rw (lt-leb _ _ w.if-count-top.false) w.all-is ] in
    let t : c.args.top < 4294967296 = search rules in
    let m : c.args.self.max < 4294967296 = search rules in
    let reaches : c.if-count-top.all ≤ 4294967295 - c.args.count = rw all-is (space-reach c.args.count c.args.top c.args.self.max c.requires t m) in
    omega (arith, reaches, c.nearer-c.ensures.1)

pub nearer-requires : goal.nearer-requires
unfolding space
nearer-requires c =
    let all-is : c.if-count-top.all ≡ space false c.args.count c.args.top c.args.self.max =
    elim c.if-count-top.branch [ then-count-top w ↦ rw (le-leb _ _ w.if-count-top.true) w.all-is | else-count-top w ↦ rw (lt-leb _ _ w.if-count-top.false) w.all-is ] in
    let t : c.args.top < 4294967296 = search rules in
    let m : c.args.self.max < 4294967296 = search rules in
    let reaches : c.if-count-top.all ≤ 4294967295 - c.args.count = rw all-is (space-reach c.args.count c.args.top c.args.self.max c.requires t m) in
    omega (arith, reaches, c.nearer-c.ensures.1, c.nearer-b.ensures.1)

pub returns : goal.returns
unfolding climb_at space
returns c =
    let all-is : c.if-count-top.all ≡ space false c.args.count c.args.top c.args.self.max =
    elim c.if-count-top.branch [ then-count-top w ↦ rw (le-leb _ _ w.if-count-top.true) w.all-is | else-count-top w ↦ rw (lt-leb _ _ w.if-count-top.false) w.all-is ] in
    simp (c.nearer.ensures.0, c.nearer-b.ensures.0, c.nearer-c.ensures.0, all-is)
