-- The longest name, which the search reads no further than a few bytes.
use Rattle.std.proofs.Common.{arith, rules}
use Rattle.std.proofs.lemmas.Slice.Eq.{text_from_reads}
use Rattle.figures.specs.Figures.{codes}
use Rattle.pin_lines.specs.PinLines.{connection_of}
use Rattle.pin_lines.proofs.connected.Goals as goal

pub returns-in-analog : goal.returns-in-analog
unfolding codes connection_of
returns-in-analog c = rw (text_from_reads c.args.word.now (codes "analog" 6) (omega arith) (search rules))
