-- A timer as the ticks of one call see it: what they cannot change, and what they move.
-- The sheet: COMnx of "Register Description".
use Rattle.std.specs.Prelude.{ℕ, ◌/◌, ◌%◌, false}
use Rattle.wave.specs.declared.kinds.Wave.{Wave}
use Rattle.tick.specs.declared.setting.Moving.{Moving}
use Rattle.tick.specs.declared.setting.Setting.{Setting}
use Rattle.tick.specs.Setting.{channel_of}
use Rattle.counter.specs.declared.state.Timer.{Timer}
use Rattle.counter.specs.Modes.{mode_of, wave_of, toggles_at}

-- COM fields are bits 7:6, 5:4 and 3:2 of TCCRnA
unfoldable pub setting_at : Timer → ℕ → Wave → Setting
setting_at t mode w = record {
  wave = w;
  a = channel_of t.config.a (t.registers.tccra / 64 % 4) w.kind (toggles_at t.config.wide mode);
  b = channel_of t.config.b (t.registers.tccra / 16 % 4) w.kind false;
  c = channel_of t.config.c (t.registers.tccra / 4 % 4) w.kind false;
  buffer = t.buffer;
  tov = t.config.tov;
  capture = t.config.icr.present;
  icf = t.config.icr.flag;
  timsk = t.flags.timsk;
  id = t.config.id;
}

-- what no tick changes
abbrev pub setting_of : Timer → Setting
setting_of t = setting_at t (mode_of t) (wave_of t (mode_of t))

-- all that a tick changes
abbrev pub moving_of : Timer → Moving
moving_of t = record { counter = t.counter; ocr = t.ocr; oc = t.oc; drives = t.drives; tifr = t.flags.tifr }

-- the timer with what moved put back
abbrev pub settle : Timer → Moving → Timer
settle t m = record {
  config = t.config;
  counter = m.counter;
  ocr = m.ocr;
  buffer = t.buffer;
  oc = m.oc;
  drives = m.drives;
  registers = t.registers;
  flags = record { tifr = m.tifr; timsk = t.flags.timsk };
  clock = t.clock;
  halts = t.halts;
}
