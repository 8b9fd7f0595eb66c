-- What ticks keep of a waveform and what moves.
use Rattle.std.specs.Prelude.{ℕ, ◌≤◌, ◌<◌, ◌^◌, get_or}
use Rattle.wave.specs.declared.kinds.Wave.{Wave}
use Rattle.wave.specs.Count.{Turns}
use Rattle.tick.specs.declared.setting.Moving.{Moving}
use Rattle.tick.specs.declared.setting.Setting.{Setting}

-- numbers in range, of a waveform and what moves; MAX is either of the two
pub record Steady (w : Wave) (m : Moving) : Type 0 where
  pub least : 255 ≤ w.max
  pub most : w.max < 65536
  pub fixed : w.fixed ≤ w.max
  pub icr : w.icr ≤ w.max
  pub compares : (ch : ℕ) → get_or m.ocr ch 0 ≤ w.max
  pub count : m.counter.count ≤ w.max
  pub turns : Turns m.counter.direction
  pub odometer : m.counter.odometer < 2 ^ 64

-- and of what no tick changes
pub record Sound (s : Setting) (m : Moving) : Type 0 where
  pub steady : Steady s.wave m
  pub buffers : (ch : ℕ) → get_or s.buffer ch 0 ≤ s.wave.max
