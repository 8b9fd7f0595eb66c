use native.Mathlib.Omega.{arith}
use Rattle.tick.proofs.Writes.{wrote_none, outputs-bottom, outputs-else, outputs-none}
use Rattle.tick.proofs.setting.Setting.outputs.Goals as goal

pub returns-then-e : goal.returns-then-e
returns-then-e c = (outputs-bottom _ _ _ c.if-e.true c.matches-matched.ensures.0 c.bottoms.ensures.0, omega arith)

pub returns-then-e-a : goal.returns-then-e-a
returns-then-e-a c = (outputs-else _ _ _ c.if-e.false c.matches.ensures.0, omega arith)

pub returns-else-e-a : goal.returns-else-e-a
returns-else-e-a c = (rw (outputs-none c.args.self c.args.e _ c.if-e.false c.if-e-a.false) (wrote_none _ _ _), omega arith)
