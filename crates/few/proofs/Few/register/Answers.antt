use native.Mathlib.Omega.{arith}
use Rattle.few.proofs.Few.register.Goals as goal

pub returns : goal.returns
returns c = (rw (c.also.ensures.0, c.also-first.ensures.0), omega arith)
