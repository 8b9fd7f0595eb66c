-- `shell::exports::paddlemauve_write` meets its contract: way 1 is a high byte.
use Rattle.std.proofs.Common.{sym, ◌∙◌}
use Rattle.held.proofs.Stores.{latches}
use Rattle.shell.proofs.exports.paddlemauve_write.Goals as goal

pub latch-requires : goal.latch-requires
latch-requires c = (c.requires, (latches c.args.t.now c.args.address c.args.cycle (sym c.way_of-way.ensures ∙ c.if-way-eq1.true)).1)

pub returns-then-way-eq1 : goal.returns-then-way-eq1
returns-then-way-eq1 c = c.latch.ensures c.args.address (latches c.args.t.now c.args.address c.args.cycle (sym c.way_of-way.ensures ∙ c.if-way-eq1.true)).0 c.args.area.now
