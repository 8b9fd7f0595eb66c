use Rattle.few.specs.Few.{also}
use Prim.Native.Nat.{◌<◌}
use native.Mathlib.Omega.{arith}
use native.Mathlib.Numerals.{add-one}
use lib.ListN.{length}
use lib.Seq.{take-suc-set}
use borrow.Author.Rules.{rules}
use Rattle.few.proofs.Few.also.Goals as goal

pub returns-then-wanted : goal.returns-then-wanted
unfolding also
returns-then-wanted c = let h : c.args.self.len < length c.args.self.items = search rules in (simp (c.if-wanted.true, add-one, take-suc-set), omega arith)

pub returns-else-wanted : goal.returns-else-wanted
unfolding also
returns-else-wanted c = (simp c.if-wanted.false, omega arith)
