-- `shell::exports::paddlemauve_count_low` meets its contract: the call is taken, or refused.
use Rattle.std.proofs.Common.{eq-eqb, ne_eqb}
use Rattle.shell.proofs.Taken.{low-asks, low_told, low-refused}
use Rattle.shell.proofs.exports.paddlemauve_count_low.Goals as goal

pub counting-a-requires : goal.counting-a-requires
counting-a-requires c = let x = c.args in low-asks x.t.now x.cycle c.requires c.accept-n.new.t c.accept-n.result c.accept-n.ensures (eq-eqb _ _ c.if-n-eq0.true)

pub returns-then-n-eq0 : goal.returns-then-n-eq0
returns-then-n-eq0 c = let x = c.args in rw (c.byte.ensures, c.counting-a.ensures) (low_told x.t.now x.cycle c.requires c.accept-n.new.t c.accept-n.result c.accept-n.ensures (eq-eqb _ _ c.if-n-eq0.true))

pub returns-else-n-eq0 : goal.returns-else-n-eq0
returns-else-n-eq0 c = let x = c.args in rw c.turned.ensures (low-refused x.t.now x.cycle c.requires c.accept-n.new.t c.accept-n.result c.accept-n.ensures (ne_eqb _ _ c.if-n-eq0.false))
