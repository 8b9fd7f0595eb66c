use Rattle.timer.proofs.Outcomes.{routes, routes-not, turned-away, at_once, plainly}
use Rattle.timer.specs.Calls.{asks, works, says, refusal_of}
use mathlib.Core.Path.{refl}
use Rattle.dispatch.proofs.route.Goals as goal

pub refusal-n-requires : goal.refusal-n-requires
refusal-n-requires c = c.requires

pub returns-then-n-ne0 : goal.returns-then-n-ne0
unfolding refusal_of asks
returns-then-n-ne0 c = turned-away _ _ _ _ c.requires c.refusal-n.ensures c.if-n-ne0.true c.refused.ensures

pub returns-then-icr : goal.returns-then-icr
unfolding refusal_of asks works says
returns-then-icr c = plainly _ _ _ _ (at_once _ _ _ _ c.requires c.refusal-n.ensures c.if-n-ne0.false refl refl) c.routed.result (routes _ c.args.cycle.0 c.args.level c.if-icr.true c.routed.ensures) refl refl refl c.done.ensures

pub returns : goal.returns
unfolding refusal_of asks works says
returns c = plainly _ _ _ _ (at_once _ _ _ _ c.requires c.refusal-n.ensures c.if-n-ne0.false refl refl) c.args.t (routes-not _ c.args.cycle.0 c.args.level c.if-icr.false) refl refl refl c.done-2.ensures
