-- Readings: the configuration that each preset gives (docs/SCRIPT.md, "Presets, by the sheets"), and that it keeps the rules (01).
use Rattle.std.specs.Prelude.{ℕ, ◌+◌, true, false, ◌≡◌, Ok}
use Rattle.words.specs.Words.{and_then}
use Rattle.config.specs.declared.Config.{Config}
use Rattle.config.specs.Config.{accepted, no_compare, no_capture}
use Rattle.m328p.specs.Timers.{wire, compare, timer0, timer1, timer2}
use Rattle.script.specs.Presets.{preset_keys}
use Rattle.script.specs.Configs.{config_of}

-- a timer of the ATmega2560: its id, first address, PRR bit, and the pins OCnA, OCnB, OCnC, ICPn and Tn
abbrev pub m2560 : ℕ → ℕ → ℕ → ℕ → ℕ → ℕ → ℕ → ℕ → Config
m2560 id base prr a b c icp t =
    record {
      id = id;
      wide = true;
      layout = 0;
      tccra = base;
      tccrb = base + 1;
      foc = base + 2;
      tcnt = base + 4;
      a = compare (base + 8) 2 0x80 a;
      b = compare (base + 10) 4 0x40 b;
      c = compare (base + 12) 8 0x20 c;
      icr = record { present = true; address = base + 6; flag = 0x20; wire = wire icp };
      tov = 1;
      t = wire t;
      clocks = 0;
      group = 1;
      prr = prr;
      sleeprun = 0;
    }

-- the ATmega8's Timer0: no compare and no WGM
abbrev pub m8timer0 : Config
m8timer0 = record { id = 0; wide = false; layout = 2; tccra = 0x53; tccrb = 0x53; foc = 0x53; tcnt = 0x52; a = no_compare; b = no_compare; c = no_compare; icr = no_capture; tov = 1; t = wire 6; clocks = 0; group = 1; prr = 0; sleeprun = 0 }

-- the ATmega16's Timer0: one control register
abbrev pub m16timer0 : Config
m16timer0 = record { id = 0; wide = false; layout = 1; tccra = 0x53; tccrb = 0x53; foc = 0x53; tcnt = 0x52; a = compare 0x5C 2 0x80 4; b = no_compare; c = no_compare; icr = no_capture; tov = 1; t = wire 1; clocks = 0; group = 1; prr = 0; sleeprun = 0 }

-- the ATmega16's Timer1: the force bits stand in TCCR1A
abbrev pub m16timer1 : Config
m16timer1 =
    record {
      id = 1;
      wide = true;
      layout = 0;
      tccra = 0x4F;
      tccrb = 0x4E;
      foc = 0x4F;
      tcnt = 0x4C;
      a = compare 0x4A 0x10 8 19;
      b = compare 0x48 8 4 18;
      c = no_compare;
      icr = record { present = true; address = 0x46; flag = 0x20; wire = wire 20 };
      tov = 4;
      t = wire 2;
      clocks = 0;
      group = 1;
      prr = 0;
      sleeprun = 0;
    }

-- the preset at a place gives a configuration, which is accepted
pub record Reads (n : ℕ) (c : Config) : Type 0 where
  pub gives : and_then (preset_keys n) (λ k. Ok (config_of k)) ≡ Ok c
  pub kept : accepted c ≡ true

-- the ten, in the order of their names
pub record Ten : Type 0 where
  pub first : Reads 0 timer0
  pub second : Reads 1 timer1
  pub third : Reads 2 timer2
  pub fourth : Reads 3 (m2560 1 0x80 8 24 25 26 47 49)
  pub fifth : Reads 4 (m2560 3 0x90 0x800 5 6 7 9 8)
  pub sixth : Reads 5 (m2560 4 0xA0 0x1000 15 16 17 35 27)
  pub seventh : Reads 6 (m2560 5 0x120 0x2000 38 39 40 36 37)
  pub eighth : Reads 7 m8timer0
  pub ninth : Reads 8 m16timer0
  pub tenth : Reads 9 m16timer1
