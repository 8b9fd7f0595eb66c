use Rattle.std.proofs.Common.{◌≡◌, length}
use Rattle.answers.proofs.Outcomes.{wrote-all}
use Rattle.answers.proofs.logged.Goals as goal

pub returns-then-write : goal.returns-then-write
returns-then-write c = let long : length c.args.r.log.bytes ≡ 110 = c.well_formed.1.0.1.1.1.0.1.1.0.1.0.1 in wrote-all _ _ _ _ long c.requires c.write.ensures c.if-write.true c.accepted.ensures
