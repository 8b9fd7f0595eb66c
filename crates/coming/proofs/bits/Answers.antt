use Rattle.coming.specs.Coming.{bits_in}
use Rattle.coming.proofs.bits.Goals as goal

pub returns : goal.returns
unfolding bits_in
returns c = simp (c.over.ensures, c.masked.ensures, c.masked-2.ensures, c.masked-3.ensures, c.masked-4.ensures, c.masked-5.ensures)
