use Rattle.std.proofs.Common.{refl}
use Rattle.bench_lines.specs.Named.{commanded_of}
use Rattle.bench_lines.proofs.named.worded.Goals as goal

pub returns-in_default : goal.returns-in_default
unfolding commanded_of
returns-in_default c =
    rw (← c.find-at.ensures.2, ← c.of.ensures, c.in_default.is) (record { leaves = record { says = record { bench = refl; puts = c.unreadable.ensures; sound = c.requires.0 }; lent = refl }; later = refl })

pub returns : goal.returns
unfolding commanded_of
returns c = rw (← c.find-at.ensures.2, ← c.of.ensures, c.in-Some.is) (record { leaves = c.line_of-bench.ensures; later = c.later.ensures })
