use Prim.Native.Nat.{◌<◌}
use Rattle.held.proofs.Answers.{told-serves}
use Rattle.rewriting.proofs.Writes.{commit-tells, passes, left-valid}
use Rattle.rewriting.proofs.committing.Goals as goal

pub passed-s-requires : goal.passed-s-requires
passed-s-requires c = let small : c.args.value < 256 = c.well_formed.1.1.0.1 in λ _. passes c.args.h _ _ c.args.cycle _ c.requires.0 c.requires.1 (small) c.requires.1.placed

pub commit-requires : goal.commit-requires
commit-requires c = let small : c.args.value < 256 = c.well_formed.1.1.0.1 in rw c.passed-s.ensures (left-valid c.args.h _ _ c.args.cycle _ c.requires.0 c.requires.1 (small) c.requires.1.placed _)

pub holding-requires : goal.holding-requires
holding-requires c = let small : c.args.value < 256 = c.well_formed.1.1.0.1 in rw c.done.ensures (commit-tells c.args.h _ _ c.args.cycle _ c.requires.0 c.requires.1 (small) c.requires.1.placed c.args.area.now c.requires.2 (rw c.passed-s.ensures at c.commit.ensures)).valid

pub returns : goal.returns
returns c = let small : c.args.value < 256 = c.well_formed.1.1.0.1 in λ address is. told-serves {r = c.done.result} (rw c.done.ensures (commit-tells c.args.h _ _ c.args.cycle address c.requires.0 c.requires.1 (small) is c.args.area.now c.requires.2 (rw c.passed-s.ensures at c.commit.ensures))) c.holding.ensures.timer c.holding.ensures.kept c.holding.ensures.reply
