use Rattle.wave.proofs.kinds.Wave.gap.Goals as goal

pub returns : goal.returns
returns c = rw c.search-s.ensures
