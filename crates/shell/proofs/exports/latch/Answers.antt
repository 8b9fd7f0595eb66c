-- `shell::exports::latch` meets its contract.
use Rattle.std.proofs.Common.{arith}
use Rattle.held.proofs.Stores.{latch-right}
use Rattle.shell.proofs.exports.latch.Goals as goal

pub returns : goal.returns
returns c = let x = c.args in rw c.new.ensures (latch-right x.t.now x.value x.cycle c.requires.0 (omega (arith, c.ranges.value.fits)) c.requires.1)
