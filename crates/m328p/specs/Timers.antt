-- The three timers of the ATmega328P on the 28-pin DIP (the sheet's Register Summary and Pin Configurations; 02, 2.6).
use Rattle.std.specs.Prelude.{ℕ, true, false}
use Rattle.config.specs.declared.Compare.{Compare}
use Rattle.config.specs.declared.Config.{Config}
use Rattle.config.specs.declared.Wire.{Wire}
use Rattle.config.specs.Config.{no_wire, no_compare, no_capture}
use Rattle.m328p.specs.declared.Id.{Id}
use Rattle.m328p.specs.declared.Id.TheVariants as id

-- a pin
abbrev pub wire : ℕ → Wire
wire pin = record { present = true; pin = pin }

-- a compare unit of the ATmega328P
abbrev pub compare : ℕ → ℕ → ℕ → ℕ → Compare
compare address flag force pin = record { present = true; address = address; flag = flag; force = force; wire = wire pin }

-- Timer0: OC0A 12, OC0B 11, T0 6
abbrev pub timer0 : Config
timer0 = record {
  id = 0;
  wide = false;
  layout = 0;
  tccra = 0x44;
  tccrb = 0x45;
  foc = 0x45;
  tcnt = 0x46;
  a = compare 0x47 2 0x80 12;
  b = compare 0x48 4 0x40 11;
  c = no_compare;
  icr = no_capture;
  tov = 1;
  t = wire 6;
  clocks = 0;
  group = 1;
  prr = 0x20;
  sleeprun = 0;
}

-- Timer1: OC1A 15, OC1B 16, ICP1 14, T1 11
abbrev pub timer1 : Config
timer1 = record {
  id = 1;
  wide = true;
  layout = 0;
  tccra = 0x80;
  tccrb = 0x81;
  foc = 0x82;
  tcnt = 0x84;
  a = compare 0x88 2 0x80 15;
  b = compare 0x8A 4 0x40 16;
  c = no_compare;
  icr = record { present = true; address = 0x86; flag = 0x20; wire = wire 14 };
  tov = 1;
  t = wire 11;
  clocks = 0;
  group = 1;
  prr = 8;
  sleeprun = 0;
}

-- Timer2: OC2A 17, OC2B 5; it runs on in sleep modes 3 and 7 (the sheet's chapter 10, Power-save Mode and Extended Standby Mode)
abbrev pub timer2 : Config
timer2 = record {
  id = 2;
  wide = false;
  layout = 0;
  tccra = 0xB0;
  tccrb = 0xB1;
  foc = 0xB1;
  tcnt = 0xB2;
  a = compare 0xB3 2 0x80 17;
  b = compare 0xB4 4 0x40 5;
  c = no_compare;
  icr = no_capture;
  tov = 1;
  t = no_wire;
  clocks = 1;
  group = 2;
  prr = 0x40;
  sleeprun = 0x88;
}

-- the configuration of a timer's id
abbrev pub config_of : Id → Config
config_of id.Zero = timer0
config_of id.One = timer1
config_of id.Two = timer2
