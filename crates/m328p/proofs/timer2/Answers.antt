use Rattle.m328p.proofs.timer2.Goals as goal

pub returns : goal.returns
returns c = rw (c.compare.ensures, c.compare-2.ensures, c.no_compare.ensures, c.no_capture.ensures, c.no_wire.ensures)
