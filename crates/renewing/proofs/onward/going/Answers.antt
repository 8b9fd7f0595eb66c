use Rattle.renewing.proofs.Goes.{late-serves, work-asks, foreseen-asks, stop-serves, come-serves}
use Rattle.renewing.proofs.onward.going.Goals as goal

pub returns-then-n-ne0 : goal.returns-then-n-ne0
returns-then-n-ne0 c = late-serves c.args.h c.args.cycle c.args.area.now c.requires c.late-n.ensures c.if-n-ne0.true c.moving.ensures c.turned.ensures

pub work-a-requires : goal.work-a-requires
work-a-requires c = work-asks c.args.h c.args.cycle c.requires c.late-n.ensures c.if-n-ne0.false

pub foreseen-e-requires : goal.foreseen-e-requires
foreseen-e-requires c = foreseen-asks c.args.h c.args.cycle c.requires c.late-n.ensures c.if-n-ne0.false c.args.area.now c.work-a.ensures c.settled.ensures c.synced-u.ensures c.top_in-top.ensures c.down_in-down.ensures

pub returns-then-a : goal.returns-then-a
returns-then-a c = stop-serves c.args.h c.args.cycle c.requires c.late-n.ensures c.if-n-ne0.false c.args.area.now c.work-a.ensures c.settled.ensures c.synced-u.ensures c.top_in-top.ensures c.down_in-down.ensures c.foreseen-e.ensures _ c.if-a.true c.new-reply.ensures

pub returns-else-a : goal.returns-else-a
returns-else-a c = come-serves c.args.h c.args.cycle c.requires c.late-n.ensures c.if-n-ne0.false c.args.area.now c.work-a.ensures c.settled.ensures c.synced-u.ensures c.top_in-top.ensures c.down_in-down.ensures c.foreseen-e.ensures _ c.if-a.false c.new-reply-else-a.ensures
