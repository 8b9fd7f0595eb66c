-- `words::volts::volts_of` meets its contract.
use Rattle.std.proofs.Common.{[], ◌∷◌, arith, rules}
use Rattle.std.proofs.lemmas.Slice.Eq.{text_from_reads}
use Rattle.words.specs.Decimals.{volts_of}
use lib.Ieee.{of_bits}
use Rattle.words.proofs.volts.volts_of.Goals as goal

pub returns-in-nan : goal.returns-in-nan
unfolding volts_of of_bits
returns-in-nan c = rw (text_from_reads c.args.word.now (110 ∷ 97 ∷ 110 ∷ []) (omega arith) (search rules))

pub returns-in-inf : goal.returns-in-inf
unfolding volts_of of_bits
returns-in-inf c = rw (text_from_reads c.args.word.now (105 ∷ 110 ∷ 102 ∷ []) (omega arith) (search rules))

pub returns-in-45 : goal.returns-in-45
unfolding volts_of of_bits
returns-in-45 c = rw (text_from_reads c.args.word.now (45 ∷ 105 ∷ 110 ∷ 102 ∷ []) (omega arith) (search rules))
