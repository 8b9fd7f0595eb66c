use Rattle.std.proofs.Common.{ne_eqb}
use Rattle.wave.specs.Count.{top_of}
use Rattle.wave.proofs.kinds.Wave.top.Goals as goal

pub returns-in-0 : goal.returns-in-0
unfolding top_of
returns-in-0 c = simp c.in-0.is

pub returns-in-1 : goal.returns-in-1
unfolding top_of
returns-in-1 c = simp c.in-1.is

pub returns-in_default : goal.returns-in_default
unfolding top_of
returns-in_default c = simp (ne_eqb _ _ c.in_default.in_default-own.rest.0.1, ne_eqb _ _ c.in_default.in_default-own.rest.1)
