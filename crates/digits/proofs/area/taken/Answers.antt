-- One pair more, or one that is none.
use Rattle.std.proofs.Common.{sym, ◌∙◌, arith, rules, refl}
use Rattle.std.proofs.lemmas.Result.{err_from_is_err_and}
use Rattle.digits.proofs.Storing.{storing_none, storing_more, storing_failed, storing_all, storing_odd, storing_large}
use Rattle.digits.proofs.area.taken.Goals as goal

pub returns-then-word-ne0 : goal.returns-then-word-ne0
returns-then-word-ne0 c = storing_odd c.args.word.now c.args.out.now (λ e. grind arith)

pub returns-then-out-pairs : goal.returns-then-out-pairs
returns-then-out-pairs c = storing_large c.args.word.now c.args.out.now (grind arith) (grind arith)

pub loop-pair-init : goal.loop-pair-init
loop-pair-init c = (refl, storing_none _ _)

pub returns-in_err-out : goal.returns-in_err-out
returns-in_err-out c =
    let p = err_from_is_err_and c.from_residual.result c.from_residual.ensures.1 in
    let pair = c.loop-pair in
    let front = c.pairs-pairs.ensures.front in
    rw (p.1, p.2)
    (storing_failed c.args.word.now c.args.out.now (grind arith) (grind arith) pair.pair-index _ _ (search rules) (rw front at pair.invariant.1) (rw front at (sym c.byte.ensures ∙ c.in_err-out.was)))

pub loop-pair-preserved : goal.loop-pair-preserved
loop-pair-preserved c =
    let pair = c.loop-pair in
    (omega (arith, pair.invariant.0), storing_more _ _ _ pair.pair-index (search rules) pair.invariant.1 c.in_ok-out.field-0 _ (grind arith) (grind arith) (sym c.byte.ensures ∙ c.in_ok-out.was))

pub returns : goal.returns
returns c =
    let pair = c.loop-pair in
    rw (pair.invariant.0) (storing_all c.args.word.now c.args.out.now (grind arith) (grind arith) pair.pair-index _ (search rules) (grind arith) (rw c.pairs-pairs.ensures.front at pair.invariant.1))
