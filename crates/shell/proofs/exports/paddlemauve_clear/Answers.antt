-- `shell::exports::paddlemauve_clear` meets its contract: the call is taken, or refused.
use Rattle.std.proofs.Common.{eq-eqb, ne_eqb}
use Rattle.shell.proofs.Taken.{clear_told, clear-refused}
use Rattle.shell.proofs.exports.paddlemauve_clear.Goals as goal

pub returns-then-n-eq0 : goal.returns-then-n-eq0
returns-then-n-eq0 c = let x = c.args in rw (c.new.ensures, c.clearing-t.ensures) (clear_told x.t.now x.cycle c.requires c.accept-n.new.t c.accept-n.result c.accept-n.ensures x.ones (eq-eqb _ _ c.if-n-eq0.true))

pub returns-else-n-eq0 : goal.returns-else-n-eq0
returns-else-n-eq0 c = let x = c.args in rw c.turned.ensures (clear-refused x.t.now x.cycle c.requires c.accept-n.new.t c.accept-n.result c.accept-n.ensures x.ones (ne_eqb _ _ c.if-n-eq0.false))
