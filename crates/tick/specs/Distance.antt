-- The distance answer: ticks, the flags of the tick that they lead to, and the compares looked at (02, 2.2 and 2.4).
use Rattle.std.specs.Prelude.{ℕ}
use Rattle.wave.specs.Distance.{gap, looked}
use Rattle.tick.specs.declared.distance.Distance.{Distance}
use Rattle.tick.specs.declared.setting.Moving.{Moving}
use Rattle.tick.specs.declared.setting.Setting.{Setting}
use Rattle.tick.specs.Skip.{distance, linear}
use Rattle.tick.specs.Tick.{events_of, raised}

-- the TIFR bits that the next event's tick will raise: those of the tick itself, the quiet ticks before it made (02, 2.2)
unfoldable pub flags_ahead : Setting → Moving → ℕ
flags_ahead s m = raised s (events_of s (linear s.wave (gap s.wave m.counter m.ocr) m))

-- ticks, flags and looked (02, 2.2 and 2.4)
abbrev pub distance_of : Setting → Moving → Distance
distance_of s m = record { ticks = distance s.wave m; flags = flags_ahead s m; looked = looked s.wave m.counter m.ocr }
