use Rattle.timer.proofs.Outcomes.{turned-away, reducing, turn-asked, turned, unturned}
use Rattle.timer.specs.Calls.{asks, refusal_of}
use Rattle.halting.proofs.reduce.Goals as goal

pub refusal-n-requires : goal.refusal-n-requires
refusal-n-requires c = c.requires

pub returns-then-n-ne0 : goal.returns-then-n-ne0
unfolding refusal_of asks
returns-then-n-ne0 c = turned-away _ _ _ _ c.requires c.refusal-n.ensures c.if-n-ne0.true c.refused.ensures

pub sync-requires : goal.sync-requires
unfolding refusal_of asks
sync-requires c = turn-asked (reducing c.args.t c.args.cycle.0 c.args.mask) c.requires c.refusal-n.ensures c.if-n-ne0.false

pub returns-then-on-halts : goal.returns-then-on-halts
unfolding refusal_of asks
returns-then-on-halts c = turned (reducing c.args.t c.args.cycle.0 c.args.mask) c.requires c.refusal-n.ensures c.if-n-ne0.false _ c.if-on-halts.true c.sync.ensures c.reduced.ensures c.done.ensures

pub returns : goal.returns
unfolding refusal_of asks
returns c = unturned (reducing c.args.t c.args.cycle.0 c.args.mask) c.requires c.refusal-n.ensures c.if-n-ne0.false _ c.if-on-halts.false c.done-2.ensures
