use Prim.Native.Nat.{◌<◌}
use mathlib.Core.Path.{sym, ◌∙◌}
use Rattle.held.proofs.Answers.{told-serves}
use Rattle.rewriting.proofs.Writes.{files, force-syncs, passes, left-valid}
use Rattle.rewriting.proofs.forcing.Goals as goal

pub passed-s-requires : goal.passed-s-requires
passed-s-requires c = let small : c.args.value < 256 = c.well_formed.1.0.1 in λ _. passes c.args.h _ _ c.args.cycle _ c.requires.0 c.requires.1 (small) c.requires.1.placed

pub write-w-requires : goal.write-w-requires
write-w-requires c = let small : c.args.value < 256 = c.well_formed.1.0.1 in rw c.passed-s.ensures (left-valid c.args.h _ _ c.args.cycle _ c.requires.0 c.requires.1 (small) c.requires.1.placed _)

pub logged-requires : goal.logged-requires
logged-requires c = c.write-w.ensures.len

pub holding-requires : goal.holding-requires
holding-requires c = let small : c.args.value < 256 = c.well_formed.1.0.1 in (files c.args.h _ _ c.args.cycle _ c.requires.0 c.requires.1 (small) c.requires.1.placed _ (force-syncs c.args.h _ _ c.requires.0 c.requires.1.placed ∙ sym c.non_pwm.ensures) c.args.area.now (rw c.passed-s.ensures at c.write-w.ensures) c.logged.ensures).valid

pub returns : goal.returns
returns c = let small : c.args.value < 256 = c.well_formed.1.0.1 in λ address is. told-serves (files c.args.h _ _ c.args.cycle address c.requires.0 c.requires.1 (small) is _ (force-syncs c.args.h _ _ c.requires.0 is ∙ sym c.non_pwm.ensures) c.args.area.now (rw c.passed-s.ensures at c.write-w.ensures) c.logged.ensures) c.holding.ensures.timer c.holding.ensures.kept c.holding.ensures.reply
