use mir.Syntax.{w32}
use mir.Val.{SFits}
use borrow.Author.Rules.{rules}
use Rattle.wave.proofs.Signs.{sign-is}
use Rattle.renewing.proofs.stands.down_in.Goals as goal

pub returns : goal.returns
returns c = let h : SFits w32 c.args.counter.direction = search rules in simp (c.dual_slope.ensures, sign-is h)
