use Rattle.std.proofs.Common.{refl}
use Rattle.figures.specs.Figures.{codes}
use Rattle.bench_lines.specs.Lines.{recorded_of}
use Rattle.bench_lines.proofs.lines.recorded.Goals as goal

pub returns-in-Err : goal.returns-in-Err
unfolding recorded_of
returns-in-Err c = rw (← c.whose.ensures, c.in-Err.is) (record { bench = refl; puts = c.unreadable.ensures; sound = c.requires })

pub returns-in-Ok : goal.returns-in-Ok
unfolding codes recorded_of
returns-in-Ok c =
    let s = c.requires in
    rw (← c.whose.ensures, c.in-Ok.is) (record { bench = refl; puts = c.text.ensures; sound = record { timer = s.timer; watchdog = s.watchdog; door = s.door; ring = s.ring } })
