use Rattle.tick.specs.Tick.{line, lines}
use Rattle.tick.proofs.setting.Setting.lines.Goals as goal

pub returns-then-active-eq0 : goal.returns-then-active-eq0
unfolding line lines
returns-then-active-eq0 c = simp c.if-active-eq0.true

pub returns : goal.returns
unfolding lines
returns c = simp (c.line.ensures.0, c.line-2.ensures.0, c.line-3.ensures.0, c.line-4.ensures.0, c.line-5.ensures.0)
