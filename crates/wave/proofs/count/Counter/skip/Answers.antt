use Rattle.wave.proofs.Signs.{turn-back}
use Rattle.wave.proofs.count.Counter.skip.Goals as goal

pub moved-requires : goal.moved-requires
moved-requires c = rw c.falls.ensures c.requires.1

pub returns : goal.returns
returns c = simp (c.counted.ensures, c.moved.ensures, c.falls.ensures, turn-back c.requires.0)
