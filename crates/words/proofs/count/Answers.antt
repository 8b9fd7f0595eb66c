-- `words::count` meets its contract. The loop's invariant: the words passed, with those from the place on, are all.
use Rattle.std.proofs.Common.{length, ap, arith}
use Rattle.words.proofs.Places.{at-word, words-skipped, words_more, words-none}
use Rattle.words.proofs.count.Goals as goal

pub loop-at-init : goal.loop-at-init
loop-at-init c =
    let a = c.args in
    let e = c.skip-at.ensures.2 in
    let w = ap length (words-skipped a.text.now a.from c.skip-at.result e) in
    (omega arith, at-word a.text.now a.from c.skip-at.result e, omega arith)

pub loop-at-preserved : goal.loop-at-preserved
loop-at-preserved c =
    let a = c.args in
    let loop = c.loop-at in
    let find = c.find in
    let e = c.skip-at-in-loop-at.ensures.2 in
    let w = ap length (words_more a.text.now loop.at find.result c.skip-at-in-loop-at.result loop.invariant.1 (omega arith) find.ensures.2 e) in
    (omega arith, at-word a.text.now find.result c.skip-at-in-loop-at.result e, omega arith)

pub returns : goal.returns
returns c =
    let a = c.args in
    let loop = c.loop-at in
    let w = ap length (words-none a.text.now loop.at c.loop-at-test.false) in
    omega arith
