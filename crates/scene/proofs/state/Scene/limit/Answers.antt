use Rattle.scene.specs.Scene.{limit_at}
use Rattle.scene.proofs.state.Scene.limit.Goals as goal

pub returns-then-self : goal.returns-then-self
unfolding limit_at
returns-then-self c = simp c.if-self.true

pub returns-else-self : goal.returns-else-self
unfolding limit_at
returns-else-self c = simp c.if-self.false
