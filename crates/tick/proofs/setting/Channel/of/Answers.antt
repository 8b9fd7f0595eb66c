use Rattle.tick.specs.Setting.{channel_of}
use Rattle.tick.proofs.setting.Channel.of.Goals as goal

pub returns : goal.returns
unfolding channel_of
returns c = simp c.enabled_at.ensures
