-- The longer names, which the search reads no further than a few bytes.
use Rattle.std.proofs.Common.{arith, rules}
use Rattle.std.proofs.lemmas.Slice.Eq.{text_from_reads}
use Rattle.figures.specs.Figures.{codes}
use Rattle.timer_lines.specs.Named.{named_of}
use Rattle.timer_lines.proofs.named.named.Goals as goal

pub returns-in-distance : goal.returns-in-distance
unfolding codes named_of
returns-in-distance c = rw (text_from_reads c.args.word.now (codes "distance" 8) (omega arith) (search rules))
