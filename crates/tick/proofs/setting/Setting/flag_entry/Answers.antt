use Rattle.tick.specs.Tick.{flag_entry}
use Rattle.tick.proofs.setting.Setting.flag_entry.Goals as goal

pub returns : goal.returns
unfolding flag_entry
returns c = simp c.lines.ensures
