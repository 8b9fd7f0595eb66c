use Rattle.figures.proofs.Writing.{wrote_then}
use Rattle.dump.proofs.Writing.{time_five}
use Rattle.dump.proofs.text.time.Goals as goal

pub returns : goal.returns
returns c = rw (time_five c.args.cycle c.if-cycle-lt2.false) (wrote_then c.number-a.ensures c.five.ensures)
