use Rattle.std.proofs.Common.{w32, SFits, rules}
use Rattle.wave.specs.Count.{falls}
use Rattle.wave.proofs.Signs.{sign-is}
use Rattle.wave.proofs.kinds.Wave.falls.Goals as goal

pub returns : goal.returns
unfolding falls
returns c = let h : SFits w32 c.args.counter.direction = search rules in simp (c.dual_slope.ensures, sign-is h)
