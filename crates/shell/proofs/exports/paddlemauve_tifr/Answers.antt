-- `shell::exports::paddlemauve_tifr` meets its contract: the call is taken, or refused.
use Rattle.std.proofs.Common.{eq-eqb, ne_eqb}
use Rattle.shell.proofs.Taken.{tifr-told, tifr-refused}
use Rattle.shell.proofs.exports.paddlemauve_tifr.Goals as goal

pub returns-then-n-eq0 : goal.returns-then-n-eq0
returns-then-n-eq0 c = let x = c.args in rw c.byte.ensures (tifr-told x.t.now x.cycle c.requires c.accept-n.new.t c.accept-n.result c.accept-n.ensures (eq-eqb _ _ c.if-n-eq0.true))

pub returns-else-n-eq0 : goal.returns-else-n-eq0
returns-else-n-eq0 c = let x = c.args in rw c.turned.ensures (tifr-refused x.t.now x.cycle c.requires c.accept-n.new.t c.accept-n.result c.accept-n.ensures (ne_eqb _ _ c.if-n-eq0.false))
