-- What ticks keep: statements, proved in proofs/.
use Rattle.std.specs.Prelude.{ℕ, ◌+◌, ◌-◌, ◌<◌, ◌≤◌, ◌^◌, ◌≡◌}
use Rattle.wave.specs.declared.kinds.Wave.{Wave}
use Rattle.wave.specs.Distance.{gap}
use Rattle.tick.specs.declared.setting.Moving.{Moving}
use Rattle.tick.specs.declared.setting.Setting.{Setting}
use Rattle.tick.specs.Tick.{tick}
use Rattle.tick.specs.Skip.{linear}
use Rattle.tick.specs.Sound.{Sound}

-- a tick keeps what is sound
abbrev pub TickKeeps : Type 0
TickKeeps = (s : Setting) (m : Moving) → Sound s m → Sound s (tick s m).moving

-- and so does a linear step below the distance
abbrev pub StepKeeps : Type 0
StepKeeps = (s : Setting) (n : ℕ) (m : Moving) → Sound s m → n ≤ gap s.wave m.counter m.ocr → Sound s (linear s.wave n m)

-- the odometer goes over 2^64: from its last number a tick takes it to 0 (02, 2.7)
abbrev pub TickWraps : Type 0
TickWraps = (s : Setting) (m : Moving) → m.counter.odometer ≡ 2 ^ 64 - 1 → (tick s m).moving.counter.odometer ≡ 0

-- and quiet ticks that pass its last number take it as far beyond
abbrev pub StepWraps : Type 0
StepWraps = (w : Wave) (n : ℕ) (m : Moving) → n < 2 ^ 64 → m.counter.odometer < 2 ^ 64 → 2 ^ 64 ≤ m.counter.odometer + n → (linear w n m).counter.odometer ≡ m.counter.odometer + n - 2 ^ 64
