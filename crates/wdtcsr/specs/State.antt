-- What the watchdog's oscillator moves (02, 2.8; the sheet, "Watchdog Timer").
use Rattle.std.specs.Prelude.{◌<◌, ◌^◌, Bool, false, ◌||◌, ◌≡◌}
use Rattle.wdtcsr.specs.declared.state.Moving.{Moving}
use Rattle.wdtcsr.specs.declared.state.Window.{Window}

-- no write can take WDE or the prescaler
abbrev pub shut : Window
shut = record { wdce = false; since = record { 0 = 0 } }

-- it runs while the reset or the interrupt is enabled (the sheet, "Watchdog Timer Configuration")
abbrev pub running : Moving → Bool
running m = m.control.wde || m.control.wdie

-- what the oscillator keeps: a count below the longest period, p from 0 to 9, and "while stopped it stays 0"
pub record Sound (m : Moving) : Type 0 where
  pub count : m.count < 2 ^ 20
  pub wdp : m.control.wdp < 10
  pub stopped : running m ≡ false → m.count ≡ 0
