use Rattle.m328p.proofs.timer1.Goals as goal

pub returns : goal.returns
returns c = rw (c.wire.ensures, c.compare.ensures, c.compare-2.ensures, c.no_compare.ensures, c.wire-2.ensures)
