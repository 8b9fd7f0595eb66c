-- `words::numeral_in` meets its contract. The loop's invariant: the bytes passed are digits, and the number is what they make, or too large.
use Rattle.std.proofs.Common.{◌≡◌, sym, refl, ◌∙◌, arith, take_all, le-leb, rules}
use Rattle.words.proofs.Numerals.{numeral_digits, numeral_most}
use Rattle.words.specs.Numbers.{all_digits, extended, limited, numeral_of}
use Rattle.words.proofs.numeral_in.Goals as goal

pub loop-b-init : goal.loop-b-init
unfolding all_digits extended limited
loop-b-init c = (omega arith, refl, rw (le-leb 0 c.args.most (omega arith)))

pub returns : goal.returns
returns c =
    let a = c.args in
    let loop = c.loop-b in
    let t = take_all loop.b-index a.word.now c.loop-b-test.false in
    let e : c.ok_or.result ≡ numeral_of a.word.now a.radix a.most = c.ok_or.ensures.value ∙ rw (loop.invariant.2, t) (sym (numeral_digits a.word.now a.radix a.most (search rules) (rw t at loop.invariant.1))) in
    (rw e (numeral_most a.word.now a.radix a.most), e)
