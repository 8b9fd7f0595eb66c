use Rattle.std.proofs.Common.{to_z-of_z, w32, SFits, rules}
use Rattle.wave.specs.Count.{next_direction}
use Rattle.wave.proofs.kinds.Wave.next_direction.Goals as goal

pub returns-then-dual_slope-top : goal.returns-then-dual_slope-top
unfolding next_direction
returns-then-dual_slope-top c = simp (← c.dual_slope.ensures, c.if-dual_slope-top.true)

pub returns-then-zero : goal.returns-then-zero
unfolding next_direction
returns-then-zero c = simp (← c.dual_slope.ensures, c.if-dual_slope-top.false, c.if-zero.true)

pub returns-else-zero : goal.returns-else-zero
unfolding next_direction
returns-else-zero c = let h : SFits w32 c.args.direction = search rules in simp (to_z-of_z h, ← c.dual_slope.ensures, c.if-dual_slope-top.false, c.if-zero.false)
