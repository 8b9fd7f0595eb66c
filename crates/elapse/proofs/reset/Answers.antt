use Rattle.timer.proofs.Outcomes.{late-alone, turned-away, at_once, filed}
use Rattle.timer.specs.Calls.{asks, works, says, refusal_of}
use mathlib.Core.Path.{refl, sym, ◌∙◌}
use Rattle.elapse.proofs.reset.Goals as goal

pub returns-then-n-ne0 : goal.returns-then-n-ne0
unfolding refusal_of asks
returns-then-n-ne0 c = turned-away _ _ _ _ c.requires (c.late-n.ensures ∙ sym (late-alone _ _)) c.if-n-ne0.true c.refused.ensures

pub logged-requires : goal.logged-requires
logged-requires c = c.reset.ensures.len

pub returns : goal.returns
unfolding refusal_of asks works says
returns c = filed _ _ _ _ (at_once _ _ _ _ c.requires (c.late-n.ensures ∙ sym (late-alone _ _)) c.if-n-ne0.false refl refl) c.reset.ensures refl c.logged.ensures
