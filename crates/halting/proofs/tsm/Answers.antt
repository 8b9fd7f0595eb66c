use Rattle.timer.proofs.Outcomes.{turned-away, changing, turn-asked, turned, unturned}
use Rattle.timer.specs.Calls.{asks, refusal_of}
use Rattle.halting.proofs.tsm.Goals as goal

pub refusal-n-requires : goal.refusal-n-requires
refusal-n-requires c = c.requires

pub returns-then-n-ne0 : goal.returns-then-n-ne0
unfolding refusal_of asks
returns-then-n-ne0 c = turned-away _ _ _ _ c.requires c.refusal-n.ensures c.if-n-ne0.true c.refused.ensures

pub sync-requires : goal.sync-requires
unfolding refusal_of asks
sync-requires c = turn-asked (changing c.args.t c.args.cycle.0 c.args.level) c.requires c.refusal-n.ensures c.if-n-ne0.false

pub returns-then-changes : goal.returns-then-changes
unfolding refusal_of asks
returns-then-changes c = turned (changing c.args.t c.args.cycle.0 c.args.level) c.requires c.refusal-n.ensures c.if-n-ne0.false _ c.if-changes.true c.sync.ensures c.with_tsm.ensures c.done.ensures

pub returns : goal.returns
unfolding refusal_of asks
returns c = unturned (changing c.args.t c.args.cycle.0 c.args.level) c.requires c.refusal-n.ensures c.if-n-ne0.false _ c.if-changes.false c.done-2.ensures
