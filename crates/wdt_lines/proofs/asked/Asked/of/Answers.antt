-- A line by its command's place.
use Rattle.figures.specs.Figures.{codes}
use mathlib.Core.Path.{refl}
use Rattle.wdt_lines.specs.Asked.{named_of}
use Rattle.wdt_lines.proofs.Telling.{line_named}
use Rattle.wdt_lines.proofs.asked.Asked.of.Goals as goal

pub returns-in-Some : goal.returns-in-Some
unfolding codes named_of
returns-in-Some c =
    let a = c.args in
    (c.following.ensures.0, rw (line_named a.line.now a.at c.skip-start.result c.find-end.result c.skip-start.ensures.2 c.if-start-line.false c.find-end.ensures.2, ← c.place.ensures.1, c.in-Some.is, ← c.command_at.ensures) c.following.ensures.1)

pub returns-in-None : goal.returns-in-None
unfolding codes named_of
returns-in-None c =
    let a = c.args in
    (tt, rw (line_named a.line.now a.at c.skip-start.result c.find-end.result c.skip-start.ensures.2 c.if-start-line.false c.find-end.ensures.2, ← c.place.ensures.1, c.in-None.is) refl)
