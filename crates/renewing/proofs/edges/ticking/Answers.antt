use borrow.Author.Rules.{rules}
use Rattle.renewing.proofs.Files.{left-serves}
use Rattle.renewing.proofs.Ticks.{tick-made, tick-asks, tick-logs, tick-serves}
use Rattle.renewing.proofs.edges.ticking.Goals as goal

pub tick-w-requires : goal.tick-w-requires
tick-w-requires c = tick-asks c.args.h c.args.asked c.requires.1 c.requires.2 c.requires.3 c.requires.4 c.requires.0 c.synced.ensures

pub write-requires : goal.write-requires
write-requires c = (c.tick-w.ensures.len, search rules)

pub returns-then-write : goal.returns-then-write
returns-then-write c = tick-serves c.args.h c.args.asked c.requires.0 c.requires.1 c.requires.2 c.requires.3 c.requires.4 c.args.area.now c.synced.ensures c.tick-w.ensures c.write.ensures c.if-write.true c.accepted.ensures c.top_in.ensures c.down_in.ensures c.new.ensures

pub returns-else-write : goal.returns-else-write
returns-else-write c = left-serves c.requires.0 (tick-made c.args.h c.args.asked c.requires.1 c.requires.2 c.requires.3 c.requires.4) c.args.area.now (tick-logs c.args.h c.args.asked c.requires.0 c.requires.1 c.requires.2 c.requires.3 c.requires.4 c.args.area.now c.synced.ensures c.tick-w.ensures c.write.ensures) c.write.ensures c.if-write.false c.turned.ensures
