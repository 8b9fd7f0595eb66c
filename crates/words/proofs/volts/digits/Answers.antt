-- `words::volts::digits` meets its contract. The loop's invariant: the bytes passed are digits, and the number holds them, as far as it has room.
use Rattle.words.proofs.Tens.{digits_read}
use Rattle.words.specs.Decimals.{held_of}
use Rattle.words.specs.Numbers.{all_digits}
use Rattle.std.proofs.Common.{sym, refl, arith, take_all, rules}
use Rattle.words.proofs.volts.digits.Goals as goal

pub loop-b-init : goal.loop-b-init
unfolding all_digits held_of
loop-b-init c = (omega arith, refl, search rules, refl)

pub returns : goal.returns
returns c =
    let a = c.args in
    let t = take_all c.loop-b.b-index a.word.now c.loop-b-test.false in
    (c.loop-b.invariant.2, rw (c.loop-b.invariant.3, t) (sym (digits_read a.word.now a.before (search rules) (rw t at c.loop-b.invariant.1))))
