-- `shell::exports::restart` meets its contract: what is left of a call that is no reset in time changes what is kept.
use Rattle.shell.proofs.Lefts.{changes}
use Rattle.shell.proofs.exports.restart.Goals as goal

pub glance-requires : goal.glance-requires
glance-requires c = (c.requires.0, changes c.args.t.now c.args.asked c.refusing.result c.refusing.ensures c.requires.1 c.requires.2 c.if-asked-refusing.false)
