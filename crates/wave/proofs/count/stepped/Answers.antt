use Rattle.wave.proofs.Signs.{sum_fits, sum-cast, sum-value}
use Rattle.wave.proofs.count.stepped.Goals as goal

pub overflow_add-result : goal.overflow_add-result
overflow_add-result c = sum_fits c.args.count c.args.direction c.requires.0 c.requires.1

pub overflow_cast-result-2 : goal.overflow_cast-result-2
overflow_cast-result-2 c = sum-cast c.args.count c.args.direction c.requires.0 c.requires.1

pub returns : goal.returns
returns c = sum-value c.args.count c.args.direction c.requires.0 c.requires.1
