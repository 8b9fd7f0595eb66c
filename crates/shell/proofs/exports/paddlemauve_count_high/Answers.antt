-- `shell::exports::paddlemauve_count_high` meets its contract: the call is taken, or refused.
use Rattle.std.proofs.Common.{eq-eqb, ne_eqb}
use Rattle.shell.proofs.Taken.{high-told, high-refused}
use Rattle.shell.proofs.exports.paddlemauve_count_high.Goals as goal

pub returns-then-n-eq0 : goal.returns-then-n-eq0
returns-then-n-eq0 c = let x = c.args in rw c.byte.ensures (high-told x.t.now x.cycle c.requires c.accept-n.new.t c.accept-n.result c.accept-n.ensures c.if-t.true (eq-eqb _ _ c.if-n-eq0.true))

pub returns-else-n-eq0 : goal.returns-else-n-eq0
returns-else-n-eq0 c = let x = c.args in rw c.turned.ensures (high-refused x.t.now x.cycle c.requires c.accept-n.new.t c.accept-n.result c.accept-n.ensures c.if-t.true (ne_eqb _ _ c.if-n-eq0.false))
