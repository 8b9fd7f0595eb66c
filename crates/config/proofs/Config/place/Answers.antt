use Rattle.config.proofs.Pairs.{found, passed}
use mathlib.Core.Path.{sym, ◌∙◌}
use native.Mathlib.Omega.{arith}
use Rattle.config.specs.Config.{place_of}
use Rattle.config.proofs.Config.place.Goals as goal

pub returns-then-count-ne13 : goal.returns-then-count-ne13
unfolding place_of
returns-then-count-ne13 c = sym (found _ _ _ _ _ _ c.pair-count.ensures c.if-count-ne13.true)

pub returns-then-first-ne13 : goal.returns-then-first-ne13
unfolding place_of
returns-then-first-ne13 c = sym (passed _ _ _ _ _ _ c.pair-count.ensures (omega arith) c.if-count-ne13.false ∙ found _ _ _ _ _ _ c.pair-first.ensures c.if-first-ne13.true)

pub returns-then-second-ne13 : goal.returns-then-second-ne13
unfolding place_of
returns-then-second-ne13 c = sym (passed _ _ _ _ _ _ c.pair-count.ensures (omega arith) c.if-count-ne13.false ∙ passed _ _ _ _ _ _ c.pair-first.ensures (omega arith) c.if-first-ne13.false ∙ found _ _ _ _ _ _ c.pair-second.ensures c.if-second-ne13.true)

pub returns-then-third-ne13 : goal.returns-then-third-ne13
unfolding place_of
returns-then-third-ne13 c = sym (passed _ _ _ _ _ _ c.pair-count.ensures (omega arith) c.if-count-ne13.false ∙ passed _ _ _ _ _ _ c.pair-first.ensures (omega arith) c.if-first-ne13.false ∙ passed _ _ _ _ _ _ c.pair-second.ensures (omega arith) c.if-second-ne13.false ∙ found _ _ _ _ _ _ c.pair-third.ensures c.if-third-ne13.true)

pub returns : goal.returns
unfolding place_of
returns c = rw (c.pair.ensures, c.control.ensures) (sym (passed _ _ _ _ _ _ c.pair-count.ensures (omega arith) c.if-count-ne13.false ∙ passed _ _ _ _ _ _ c.pair-first.ensures (omega arith) c.if-first-ne13.false ∙ passed _ _ _ _ _ _ c.pair-second.ensures (omega arith) c.if-second-ne13.false ∙ passed _ _ _ _ _ _ c.pair-third.ensures (omega arith) c.if-third-ne13.false))
