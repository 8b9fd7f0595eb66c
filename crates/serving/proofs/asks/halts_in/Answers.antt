use native.Mathlib.Nat.{mod-lt}
use Rattle.serving.proofs.Modes.{any-mode}
use borrow.Author.Rules.{rules}
use Rattle.serving.proofs.asks.halts_in.Goals as goal

pub halts_in-requires : goal.halts_in-requires
halts_in-requires c = mod-lt _ (search rules)

pub returns : goal.returns
returns c = rw c.halts_in.ensures (any-mode _ _)
