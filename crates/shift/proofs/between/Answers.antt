use mathlib.Core.Path.{◌∙◌}
use mir.Syntax.{w32}
use mir.Val.{SFits}
use mir.Facts.{to_z-of_z}
use borrow.Author.Rules.{rules}
use Rattle.shift.proofs.Signs.{between_is}
use Rattle.shift.proofs.between.Goals as goal

pub returns : goal.returns
returns c = let h : SFits w32 c.signed.result = search rules in to_z-of_z h ∙ (c.signed.ensures ∙ rw c.apart.ensures (between_is c.args.from.0 c.args.to.0))
