use Rattle.std.proofs.Common.{refl}
use Rattle.wave.specs.Count.{hits}
use Rattle.wave.proofs.count.Counter.hits.Goals as goal

pub returns : goal.returns
unfolding hits
returns c = refl
