use Rattle.counter.proofs.Advances.{paused-work}
use Rattle.counter.proofs.advance.Work.of.Goals as goal

pub returns-then-f : goal.returns-then-f
returns-then-f c = paused-work c.args.f c.args.p c.args.sync.0 c.args.cycle.0 c.if-f.true c.cycle-last.ensures c.later.ensures

pub returns-else-f : goal.returns-else-f
returns-else-f c = simp c.if-f.false
