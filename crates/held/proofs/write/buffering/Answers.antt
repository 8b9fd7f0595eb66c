use Rattle.held.specs.Write.{buffered}
use Rattle.held.proofs.Stills.{quiet-in, still-asks}
use Rattle.held.proofs.write.buffering.Goals as goal

pub stilling-s-requires : goal.stilling-s-requires
stilling-s-requires c = still-asks c.args.h c.args.cycle (quiet-in _ _ c.requires.0 c.requires.1.quiet)

pub returns : goal.returns
unfolding buffered
returns c = simp (c.stilling-s.ensures, c.committed.ensures, c.new.ensures)
