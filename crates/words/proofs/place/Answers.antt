-- `words::place` meets its contract. The loop's invariant: the names passed are others, and the word's place is counted on from the next.
use Rattle.std.proofs.Common.{length, sym, refl, ap, ◌∙◌, arith}
use Rattle.words.specs.Words.{place_in, skip_of}
use Rattle.words.proofs.Places.{at-word, words-skipped, words_more, words-none}
use Rattle.words.proofs.place.Goals as goal

pub loop-at-init : goal.loop-at-init
loop-at-init c =
    let a = c.args in
    let e = c.skip-at.ensures.2 in
    let w = words-skipped a.names.now 0 c.skip-at.result e in
    (omega arith, at-word a.names.now 0 c.skip-at.result e, omega (arith, ap length w), ap (place_in a.word.now 0) w)

pub returns-then-eq : goal.returns-then-eq
returns-then-eq c =
    let a = c.args in
    let loop = c.loop-at in
    let find = c.find-end in
    let w = words_more a.names.now loop.at find.result (skip_of a.names.now find.result) loop.invariant.1 c.loop-at-test.true find.ensures.2 refl in
    let l = ap length w in
    (omega arith, sym (ap (place_in a.word.now loop.n) w ∙ rw (← c.eq.ensures, c.if-eq.true) refl) ∙ loop.invariant.3)

pub loop-at-preserved : goal.loop-at-preserved
loop-at-preserved c =
    let a = c.args in
    let loop = c.loop-at in
    let find = c.find-end in
    let n = c.skip-at-in-loop-at.ensures.2 in
    let w = words_more a.names.now loop.at find.result c.skip-at-in-loop-at.result loop.invariant.1 c.loop-at-test.true find.ensures.2 n in
    let l = ap length w in
    (omega arith, at-word a.names.now find.result c.skip-at-in-loop-at.result n, omega arith, sym (ap (place_in a.word.now loop.n) w ∙ rw (← c.eq.ensures, c.if-eq.false)) ∙ loop.invariant.3)

pub returns : goal.returns
returns c =
    let a = c.args in
    let loop = c.loop-at in
    (tt, sym (ap (place_in a.word.now loop.n) (words-none a.names.now loop.at c.loop-at-test.false)) ∙ loop.invariant.3)
