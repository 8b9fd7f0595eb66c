use mathlib.Core.Path.{sym, ◌∙◌}
use Rattle.serving.proofs.Looks.{known-looks, unknown-looks}
use Rattle.serving.proofs.looking.looking.Goals as goal

pub returns-in-Known : goal.returns-in-Known
returns-in-Known c = known-looks _ c.args.h _ _ _ (sym c.call-wanted.ensures ∙ c.in-Known.is) c.calling.ensures

pub returns-in-Unknown : goal.returns-in-Unknown
returns-in-Unknown c = rw (c.nothing.ensures, c.turned.ensures) (unknown-looks _ c.args.h _ c.requires (sym c.call-wanted.ensures ∙ c.in-Unknown.is))
