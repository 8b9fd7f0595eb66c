use Rattle.counter.specs.Modes.{wave_of}
use Rattle.counter.proofs.state.Timer.wave_at.Goals as goal

pub returns : goal.returns
unfolding wave_of
returns c = simp (c.kind_at.ensures, c.source_at.ensures, c.fixed_at.ensures, c.max_at.ensures)
