-- `shell::exports::still` meets its contract.
use Rattle.held.proofs.Stills.{quiet-in, still-asks, advance-quiet}
use Rattle.shell.proofs.exports.still.Goals as goal

pub stilling-a-requires : goal.stilling-a-requires
stilling-a-requires c = let x = c.args in still-asks x.t.now x.cycle (quiet-in x.t.now x.cycle c.requires.0 c.requires.1)

pub returns : goal.returns
returns c = let x = c.args in rw (c.new.ensures, c.stilling-a.ensures) (advance-quiet x.t.now x.cycle (quiet-in x.t.now x.cycle c.requires.0 c.requires.1))
