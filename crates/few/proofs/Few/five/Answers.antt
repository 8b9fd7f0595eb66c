use native.Mathlib.Omega.{arith}
use Rattle.few.proofs.Few.five.Goals as goal

pub returns : goal.returns
returns c = (rw (c.also-3.ensures.0, c.wide-5.ensures, c.also-four.ensures.0, c.wide-4.ensures, c.also-2.ensures.0, c.wide-3.ensures, c.also-two.ensures.0, c.wide-2.ensures, c.also.ensures.0, c.wide.ensures, c.new.ensures.0), omega (arith, c.also-3.ensures.1, c.also-four.ensures.1, c.also-2.ensures.1, c.also-two.ensures.1, c.also.ensures.1, c.new.ensures.1))
