-- The step that skips: quiet ticks in one (01, "Count, direction, next event").
-- The sheet: nothing of its own, it is reckoned from Count.
use Rattle.std.specs.Prelude.{ℕ, ◌+◌}
use Rattle.wave.specs.declared.kinds.Wave.{Wave}
use Rattle.wave.specs.Distance.{gap, skipped}
use Rattle.tick.specs.declared.setting.Moving.{Moving}

-- the distance: ticks until the next whose work can be seen
abbrev pub distance : Wave → Moving → ℕ
distance w m = gap w m.counter m.ocr + 1

-- n quiet ticks in one step: the counter alone moves
unfoldable pub linear : Wave → ℕ → Moving → Moving
linear w n m = record { counter = skipped w n m.counter; ocr = m.ocr; oc = m.oc; drives = m.drives; tifr = m.tifr }
