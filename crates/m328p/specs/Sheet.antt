-- What the ATmega328P's sheet has of the three timers, read from their configurations (02, 2.6).
use Rattle.std.specs.Prelude.{List, [], ◌∷◌, ◌≡◌}
use Rattle.config.specs.declared.Config.{Config}
use Rattle.config.specs.declared.Wire.{Wire}
use Rattle.config.specs.Config.{no_wire}
use Rattle.m328p.specs.Timers.{wire, timer0, timer1, timer2}

-- the pins of a timer: OCnA, OCnB, ICPn, Tn
abbrev pub pins_of : Config → List Wire
pins_of c = c.a.wire ∷ c.b.wire ∷ c.icr.wire ∷ c.t ∷ []

-- Sheet: the nine pins of the 28-pin DIP (Pin Configurations), PRR's bits of Timer0, Timer1 and Timer2 (PRR – Power Reduction Register), and the sleep modes but idle in which each runs on
pub record Sheet : Type 0 where
  pub zero : pins_of timer0 ≡ wire 12 ∷ wire 11 ∷ no_wire ∷ wire 6 ∷ []
  pub one : pins_of timer1 ≡ wire 15 ∷ wire 16 ∷ wire 14 ∷ wire 11 ∷ []
  pub two : pins_of timer2 ≡ wire 17 ∷ wire 5 ∷ no_wire ∷ no_wire ∷ []
  pub prr : timer0.prr ∷ timer1.prr ∷ timer2.prr ∷ [] ≡ 0x20 ∷ 0x08 ∷ 0x40 ∷ []
  pub sleeprun : timer0.sleeprun ∷ timer1.sleeprun ∷ timer2.sleeprun ∷ [] ≡ 0 ∷ 0 ∷ 0x88 ∷ []
