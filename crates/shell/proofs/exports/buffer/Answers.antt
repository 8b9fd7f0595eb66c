-- `shell::exports::buffer` meets its contract.
use Rattle.std.proofs.Common.{arith}
use Rattle.held.proofs.Stores.{buffer-right}
use Rattle.shell.proofs.exports.buffer.Goals as goal

pub returns : goal.returns
returns c = let x = c.args in rw c.buffering-a.ensures (buffer-right x.t.now x.place x.value x.cycle c.requires.0 c.requires.1 (omega (arith, c.ranges.value.fits)))
