use Rattle.std.proofs.Common.{rules}
use Rattle.watchdog.proofs.Keeps.{timely}
use Rattle.watchdog.proofs.calls.synced.Goals as goal

pub sync-requires : goal.sync-requires
sync-requires c = let t = timely c.args.w c.args.cycle.0 (search rules) in (c.requires, t.latest, t.most, t.before)
