-- `words::volts::pattern` meets its contract: what equals itself is no NaN, so it has a pattern, and of what does not there is one.
use Rattle.std.proofs.Common.{◌≡◌, true, not, T, sym, subst}
use lib.Ieee.{Float, nan, inf, fin, eq, ne, is_nan, to_bits}
use lib.Ieee.Compare.{differs_from_itself}
use Rattle.words.proofs.volts.pattern.Goals as goal

no_nan : (x : Float) → eq x x ≡ true → T (not (is_nan x))
unfolding eq is_nan
no_nan nan h = subst T (sym h) tt
no_nan (inf s) h = tt
no_nan (fin s m e) h = tt

pub float_to_bits-result : goal.float_to_bits-result
float_to_bits-result c = no_nan c.args.v c.if-v.true

pub returns-else-v : goal.returns-else-v
unfolding to_bits ne
returns-else-v c = rw (differs_from_itself c.args.v (rw c.if-v.false tt))
