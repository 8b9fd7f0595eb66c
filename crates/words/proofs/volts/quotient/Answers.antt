-- `words::volts::quotient` meets its contract. Both are whole numbers below 2^53, so that the division alone rounds.
use Rattle.words.proofs.Tens.{nearest_tens, power_is}
use Rattle.words.specs.Decimals.{quotient_of}
use Rattle.std.proofs.Common.{Ok, ap, arith, rules, le-leb}
use Rattle.words.proofs.volts.quotient.Goals as goal

pub returns : goal.returns
unfolding quotient_of
returns c =
    let a = c.args in
    rw (le-leb a.all 15 c.if-all-gt15.false) (ap Ok (nearest_tens a.digits a.places _ _ (search rules) (omega arith) c.nearest_u64_to_f64.ensures (power_is a.places _ (omega arith))))
