-- An area that changed has its own words.
use borrow.Author.Tests.{lt-ltb}
use Rattle.figures.specs.Figures.{codes}
use Rattle.timer_lines.specs.Called.{told_of}
use Rattle.timer_lines.proofs.called.told.Goals as goal

pub returns-then-end-area : goal.returns-then-end-area
unfolding codes told_of
returns-then-end-area c = rw (← c.changed-end.ensures, lt-ltb c.changed-end.result _ c.if-end-area.true) c.number.ensures
