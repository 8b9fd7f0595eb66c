use mathlib.Core.Path.{refl}
use Rattle.wdt_lines.specs.Called.{read_of}
use Rattle.wdt_lines.proofs.called.wdt_line.Goals as goal

pub returns-in-Ok : goal.returns-in-Ok
unfolding read_of
returns-in-Ok c = rw (← c.of.ensures.1, c.in-Ok.is) c.heard.ensures

pub returns-in-Err : goal.returns-in-Err
unfolding read_of
returns-in-Err c = rw (← c.of.ensures.1, c.in-Err.is) (record { watchdog = refl; area = refl; puts = c.unreadable.ensures; valid = c.requires.0 })
