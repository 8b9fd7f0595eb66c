-- What a line asks for, of a watchdog that there is or of none.
use Rattle.std.specs.Prelude.{Some}
use Rattle.figures.specs.Figures.{codes}
use mathlib.Core.Path.{refl, ap}
use borrow.Author.Rules.{rules}
use lib.Seq.{length-take-le}
use Rattle.oscillator.specs.declared.state.Watchdog.{Watchdog}
use Rattle.wdt_lines.specs.Called.{heard_of}
use Rattle.wdt_lines.proofs.Telling.{part_leaves}
use Rattle.wdt_lines.proofs.called.heard.Goals as goal

pub returns-in-New : goal.returns-in-New
unfolding codes heard_of
returns-in-New c = rw c.in-New.is (record { watchdog = ap (λ (x : Watchdog). Some x) c.new.ensures.0; area = refl; puts = c.text.ensures; valid = c.new.ensures.1 })

pub returns-in-Some : goal.returns-in-Some
unfolding heard_of
returns-in-Some c = rw (c.in-State.is, c.in-Some.is) (record { watchdog = refl; area = refl; puts = c.state.ensures; valid = rw c.in-Some.is at c.requires.0 })

pub returns-in-None : goal.returns-in-None
unfolding codes heard_of
returns-in-None c = rw (c.in-State.is, c.in-None.is) (record { watchdog = refl; area = refl; puts = c.text-in-None.ensures; valid = tt })

pub returns-in-Some-w : goal.returns-in-Some-w
unfolding heard_of
returns-in-Some-w c =
    let q = c.in-Call in
    rw (q.is, c.in-Some-w.is) (part_leaves c.in-Some-w.watchdog q.call q.cycle q.size _ _ _ _ _ _ (length-take-le q.size c.args.area.now (search rules)) c.called.ensures)

pub returns-in-None-w : goal.returns-in-None-w
unfolding codes heard_of
returns-in-None-w c = rw (c.in-Call.is, c.in-None-w.is) (record { watchdog = refl; area = refl; puts = c.text-in-None-w.ensures; valid = tt })
