use Rattle.timer.proofs.Outcomes.{wakes, wakes-not, turned-away, wake-asked, at_once, plainly}
use Rattle.timer.specs.declared.calls.Call.TheVariants as call
use Rattle.timer.specs.Calls.{asks, works, says, refusal_of}
use mathlib.Core.Path.{refl, sym, ◌∙◌}
use Rattle.halting.proofs.wake.Goals as goal

pub refusal-n-requires : goal.refusal-n-requires
refusal-n-requires c = c.requires

pub returns-then-n-ne0 : goal.returns-then-n-ne0
unfolding refusal_of asks
returns-then-n-ne0 c = turned-away _ _ _ _ c.requires c.refusal-n.ensures c.if-n-ne0.true c.refused.ensures

pub awake-requires : goal.awake-requires
unfolding refusal_of asks
awake-requires c = wake-asked c.args.t call.Wake c.args.cycle.0 c.requires (sym c.refusal-n.ensures ∙ c.if-n-ne0.false) c.if-halts.true

pub returns-then-halts : goal.returns-then-halts
unfolding refusal_of asks works says
returns-then-halts c = plainly _ _ _ _ (at_once _ _ _ _ c.requires c.refusal-n.ensures c.if-n-ne0.false refl refl) c.awake.result (wakes _ c.args.cycle.0 c.if-halts.true c.awake.ensures) refl refl refl c.done.ensures

pub returns : goal.returns
unfolding refusal_of asks works says
returns c = plainly _ _ _ _ (at_once _ _ _ _ c.requires c.refusal-n.ensures c.if-n-ne0.false refl refl) c.args.t (wakes-not _ c.args.cycle.0 c.if-halts.false) refl refl refl c.done-2.ensures
