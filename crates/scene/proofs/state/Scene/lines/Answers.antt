use Rattle.scene.specs.Scene.{lines_of}
use Rattle.tick.specs.Tick.{line}
use Rattle.scene.proofs.state.Scene.lines.Goals as goal

pub returns-then-active-eq0 : goal.returns-then-active-eq0
unfolding line lines_of
returns-then-active-eq0 c = simp c.if-active-eq0.true

pub returns : goal.returns
unfolding lines_of
returns c = simp (c.line.ensures.0, c.line-2.ensures.0, c.line-3.ensures.0, c.line-4.ensures.0, c.line-5.ensures.0)
