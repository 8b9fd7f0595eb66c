use Rattle.counter.specs.Setting.{setting_at}
use Rattle.counter.proofs.state.Timer.setting.Goals as goal

pub returns : goal.returns
unfolding setting_at
returns c = simp (c.of-a.ensures, c.of-b.ensures, c.of-c.ensures, c.toggles_at-toggles.ensures)
