-- Zeros stand where bytes were taken back.
use native.Mathlib.Omega.{arith}
use borrow.Author.Rules.{rules}
use Rattle.std.proofs.lemmas.Grind.{common_steps}
use Rattle.page.proofs.Packing.{cut_kept}
use Rattle.page.proofs.Page.truncate.Goals as goal

pub invariant_of-self : goal.invariant_of-self
invariant_of-self c = cut_kept _ _ _ _ (search rules) c.self.invariant.len (omega (arith, c.if-len-self.true)) c.self.invariant.behind (grind (arith, common_steps))
