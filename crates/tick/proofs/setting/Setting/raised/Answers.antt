use Rattle.tick.specs.Tick.{raised}
use Rattle.tick.proofs.setting.Setting.raised.Goals as goal

pub returns : goal.returns
unfolding raised
returns c = simp (c.masked.ensures, c.masked-2.ensures, c.masked-3.ensures, c.masked-4.ensures, c.masked-5.ensures)
