use Rattle.std.proofs.Common.{refl, inl, arith, le-leb}
use borrow.Author.Tests.{lt-leb}
use Rattle.wave.proofs.Signs.{turn-back, turns-back}
use Rattle.wave.proofs.kinds.Wave.step.Goals as goal

pub returns-in-0-to-2 : goal.returns-in-0-to-2
returns-in-0-to-2 c = (simp (lt-leb 3 c.args.self.kind (omega arith)), inl refl)

pub returns-in_default : goal.returns-in_default
returns-in_default c = (simp (turn-back c.requires, le-leb 3 c.args.self.kind (omega arith)), turns-back c.requires)
