use Rattle.std.proofs.Common.{arith, le-leb}
use Rattle.wave.proofs.kinds.ends_at_top.Goals as goal

pub returns-in-0 : goal.returns-in-0
returns-in-0 c = simp c.in-0.is

pub returns-in_default : goal.returns-in_default
returns-in_default c = let h = c.in_default.in_default-own.rest.1 in simp (le-leb 1 c.args.kind (omega (arith, h)))
