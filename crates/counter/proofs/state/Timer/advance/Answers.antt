use Rattle.counter.proofs.Advances.{advances}
use Rattle.counter.proofs.state.Timer.advance.Goals as goal

pub returns : goal.returns
returns c = advances c.args.self c.args.cycle.0 c.requires c.work-w.ensures c.settled-t.ensures c.synced.ensures
