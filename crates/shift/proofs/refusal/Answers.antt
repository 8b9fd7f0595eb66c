use Rattle.shift.specs.Shift.{refusal_of}
use Rattle.shift.proofs.refusal.Goals as goal

pub returns : goal.returns
unfolding refusal_of
returns c = simp (c.foremost.ensures, c.far.ensures, c.late-2.ensures, c.late.ensures)
