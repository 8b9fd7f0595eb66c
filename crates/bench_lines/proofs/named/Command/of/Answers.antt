use Rattle.std.proofs.Common.{refl}
use Rattle.figures.specs.Figures.{codes}
use Rattle.bench_lines.specs.Named.{or_other}
use Rattle.bench_lines.proofs.named.Command.of.Goals as goal

pub returns : goal.returns
unfolding codes or_other
returns c = rw (← c.named.ensures, c.in_default.is, ← c.place.ensures.1, c.in_ok-place.was, ← c.other.ensures) refl
