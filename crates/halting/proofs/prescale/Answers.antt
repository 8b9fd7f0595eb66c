use Rattle.std.proofs.Common.{not, ap, eq-eqb, ne_eqb}
use Rattle.timer.proofs.Outcomes.{turned-away, prescaling, turn-asked, turned, unturned}
use Rattle.timer.specs.Calls.{asks, refusal_of}
use Rattle.halting.proofs.prescale.Goals as goal

pub refusal-n-requires : goal.refusal-n-requires
refusal-n-requires c = c.requires

pub returns-then-n-ne0 : goal.returns-then-n-ne0
unfolding refusal_of asks
returns-then-n-ne0 c = turned-away _ _ _ _ c.requires c.refusal-n.ensures c.if-n-ne0.true c.refused.ensures

pub sync-requires : goal.sync-requires
unfolding refusal_of asks
sync-requires c = turn-asked (prescaling c.args.t c.args.cycle.0 c.args.mask) c.requires c.refusal-n.ensures c.if-n-ne0.false

pub returns-then-own : goal.returns-then-own
unfolding refusal_of asks
returns-then-own c = turned (prescaling c.args.t c.args.cycle.0 c.args.mask) c.requires c.refusal-n.ensures c.if-n-ne0.false _ (ap not (ne_eqb _ _ c.if-own.true)) c.sync.ensures c.prescaled.ensures c.done.ensures

pub returns : goal.returns
unfolding refusal_of asks
returns c = unturned (prescaling c.args.t c.args.cycle.0 c.args.mask) c.requires c.refusal-n.ensures c.if-n-ne0.false _ (ap not (eq-eqb _ _ c.if-own.false)) c.done-2.ensures
