use Rattle.std.proofs.Common.{◌≡◌, ◌≤◌, arith, le-leb}
use Rattle.coming.proofs.Ways.{space-within}
use Rattle.coming.specs.Coming.{gap_in}
use Rattle.wave.specs.Distance.{space, reach}
use borrow.Author.Tests.{lt-leb}
use Rattle.coming.proofs.gap.Goals as goal
use Rattle.coming.proofs.gap.Goals.{then-down, else-down+then-count-top, else-down+else-count-top}

-- to 0 falling, else to TOP, or to MAX from above TOP
pub nearer-c-requires : goal.nearer-c-requires
unfolding space
nearer-c-requires c =
    let all-is : c.if-down.all ≡ space c.args.down c.args.count c.args.top c.args.s.max =
    elim c.if-down.branch [
      | then-down w ↦ rw w.if-down.true w.all-is
      | else-down+then-count-top w ↦ rw (w.if-down.false, le-leb _ _ w.if-count-top.true) w.all-is
      | else-down+else-count-top w ↦ rw (w.if-down.false, lt-leb _ _ w.if-count-top.false) w.all-is
    ] in
    let p = c.requires in
    let reaches : c.if-down.all ≤ reach c.args.down c.args.count = rw all-is (space-within c.args.down c.args.count c.args.top c.args.s.max p.0 p.1 p.2) in
    reaches

pub nearer-b-requires : goal.nearer-b-requires
unfolding space
nearer-b-requires c =
    let all-is : c.if-down.all ≡ space c.args.down c.args.count c.args.top c.args.s.max =
    elim c.if-down.branch [
      | then-down w ↦ rw w.if-down.true w.all-is
      | else-down+then-count-top w ↦ rw (w.if-down.false, le-leb _ _ w.if-count-top.true) w.all-is
      | else-down+else-count-top w ↦ rw (w.if-down.false, lt-leb _ _ w.if-count-top.false) w.all-is
    ] in
    let p = c.requires in
    let reaches : c.if-down.all ≤ reach c.args.down c.args.count = rw all-is (space-within c.args.down c.args.count c.args.top c.args.s.max p.0 p.1 p.2) in
    omega (arith, reaches, c.nearer-c.ensures.1)

pub nearer-requires : goal.nearer-requires
unfolding space
nearer-requires c =
    let all-is : c.if-down.all ≡ space c.args.down c.args.count c.args.top c.args.s.max =
    elim c.if-down.branch [
      | then-down w ↦ rw w.if-down.true w.all-is
      | else-down+then-count-top w ↦ rw (w.if-down.false, le-leb _ _ w.if-count-top.true) w.all-is
      | else-down+else-count-top w ↦ rw (w.if-down.false, lt-leb _ _ w.if-count-top.false) w.all-is
    ] in
    let p = c.requires in
    let reaches : c.if-down.all ≤ reach c.args.down c.args.count = rw all-is (space-within c.args.down c.args.count c.args.top c.args.s.max p.0 p.1 p.2) in
    omega (arith, reaches, c.nearer-c.ensures.1, c.nearer-b.ensures.1)

pub returns : goal.returns
unfolding gap_in space
returns c =
    let all-is : c.if-down.all ≡ space c.args.down c.args.count c.args.top c.args.s.max =
    elim c.if-down.branch [
      | then-down w ↦ rw w.if-down.true w.all-is
      | else-down+then-count-top w ↦ rw (w.if-down.false, le-leb _ _ w.if-count-top.true) w.all-is
      | else-down+else-count-top w ↦ rw (w.if-down.false, lt-leb _ _ w.if-count-top.false) w.all-is
    ] in (
      simp (c.nearer.ensures.0, c.nearer-b.ensures.0, c.nearer-c.ensures.0, all-is),
      omega (arith, c.nearer.ensures.1, c.nearer-b.ensures.1, c.nearer-c.ensures.1, all-is),
    )
