use Prim.Native.Nat.{◌<◌}
use Rattle.held.proofs.Answers.{told-serves}
use Rattle.rewriting.proofs.Writes.{control-tells, control-turned, passes, left-valid}
use borrow.Author.Rules.{rules}
use Rattle.rewriting.proofs.controlling.Goals as goal

pub passed-requires : goal.passed-requires
passed-requires c = let small : c.args.value < 256 = c.well_formed.1.1.0.1 in λ _. passes c.args.h _ _ c.args.cycle _ c.requires.0 c.requires.1 (small) c.requires.1.placed

pub write-w-requires : goal.write-w-requires
write-w-requires c = let small : c.args.value < 256 = c.well_formed.1.1.0.1 in rw c.passed.ensures (left-valid c.args.h _ _ c.args.cycle _ c.requires.0 c.requires.1 (small) c.requires.1.placed _)

pub write-requires : goal.write-requires
write-requires c = (c.write-w.ensures.len, search rules)

pub held_of-held-requires : goal.held_of-held-requires
held_of-held-requires c = let small : c.args.value < 256 = c.well_formed.1.1.0.1 in (control-tells c.args.h _ _ c.args.cycle _ c.requires.0 c.requires.1 (small) c.requires.1.placed c.args.area.now c.requires.2 c.requires.3 (rw c.passed.ensures at c.write-w.ensures) c.write.ensures c.if-write.true).valid

pub holding-requires : goal.holding-requires
holding-requires c = rw c.refused.ensures c.requires.0.valid

pub returns-then-write : goal.returns-then-write
returns-then-write c = let small : c.args.value < 256 = c.well_formed.1.1.0.1 in λ address is. told-serves (control-tells c.args.h _ _ c.args.cycle address c.requires.0 c.requires.1 (small) is c.args.area.now c.requires.2 c.requires.3 (rw c.passed.ensures at c.write-w.ensures) c.write.ensures c.if-write.true) c.held_of-held.ensures.0 c.held_of-held.ensures.1 c.new.ensures

pub returns-else-write : goal.returns-else-write
returns-else-write c = let small : c.args.value < 256 = c.well_formed.1.1.0.1 in λ address is. told-serves (control-turned c.args.h _ _ c.args.cycle address c.requires.0 c.requires.1 (small) is c.args.area.now c.requires.2 c.requires.3 (rw c.passed.ensures at c.write-w.ensures) c.write.ensures c.if-write.false c.refused.ensures) c.holding.ensures.timer c.holding.ensures.kept c.holding.ensures.reply
