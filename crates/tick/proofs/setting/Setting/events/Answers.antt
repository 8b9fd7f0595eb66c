use borrow.Author.Rules.{rules}
use Rattle.wave.specs.Count.{at_top, at_zero, rising}
use Rattle.tick.specs.Tick.{events_at}
use Rattle.wave.proofs.Signs.{sign-is}
use Rattle.tick.proofs.setting.Setting.events.Goals as goal

pub returns : goal.returns
unfolding events_at at_top at_zero rising
returns c = simp (c.fast_pwm.ensures, sign-is {d = c.args.m.counter.direction} (search rules), c.hits.ensures, c.hits-2.ensures, c.hits-3.ensures, c.overflows.ensures, c.loads.ensures, c.falls-falls.ensures)
