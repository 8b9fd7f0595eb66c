-- Mode, kind, TOP, MAX and clock: the tables of 01, "Count, direction, next event".
-- The sheet: "Modes of Operation"; "Internal Clock Source"; "External Clock Source"; WGM and CS of "Register Description".
use Rattle.std.specs.Prelude.{ℕ, ◌+◌, ◌*◌, ◌/◌, ◌%◌, Bool, cond, not, ◌&&◌, ◌||◌, List, [], ◌∷◌, get_or, eqb, leb, ltb}
use Rattle.wave.specs.declared.kinds.Wave.{Wave}
use Rattle.time.specs.declared.units.Prescaler.{Prescaler}
use Rattle.time.specs.Halts.{holding}
use Rattle.wave.specs.Kinds.{N, C, F, P, Q, X, A, I}
use Rattle.counter.specs.declared.state.Timer.{Timer}

-- narrow modes 0 to 7
abbrev pub narrow_kinds : List ℕ
narrow_kinds = N ∷ P ∷ C ∷ F ∷ N ∷ P ∷ N ∷ F ∷ []

-- where their TOP comes from
abbrev pub narrow_sources : List ℕ
narrow_sources = X ∷ X ∷ A ∷ X ∷ X ∷ A ∷ X ∷ A ∷ []

-- the TOP that they fix, 0 where they do not
abbrev pub narrow_tops : List ℕ
narrow_tops = 0xFF ∷ 0xFF ∷ 0 ∷ 0xFF ∷ 0xFF ∷ 0 ∷ 0xFF ∷ 0 ∷ []

-- wide modes 0 to 15
abbrev pub wide_kinds : List ℕ
wide_kinds = N ∷ P ∷ P ∷ P ∷ C ∷ F ∷ F ∷ F ∷ Q ∷ Q ∷ P ∷ P ∷ C ∷ N ∷ F ∷ F ∷ []

-- where their TOP comes from
abbrev pub wide_sources : List ℕ
wide_sources = X ∷ X ∷ X ∷ X ∷ A ∷ X ∷ X ∷ X ∷ I ∷ A ∷ I ∷ A ∷ I ∷ X ∷ I ∷ A ∷ []

-- the TOP that they fix, 0 where they do not
abbrev pub wide_tops : List ℕ
wide_tops = 0xFFFF ∷ 0xFF ∷ 0x1FF ∷ 0x3FF ∷ 0 ∷ 0xFF ∷ 0x1FF ∷ 0x3FF ∷ 0 ∷ 0 ∷ 0 ∷ 0 ∷ 0 ∷ 0xFFFF ∷ 0 ∷ 0 ∷ []

-- clocks that are no divisor: stopped, and the edges of the T pin to level 0 and to level 1
abbrev pub stop : ℕ
stop = 0

abbrev pub falling : ℕ
falling = 2048

abbrev pub rising : ℕ
rising = 2049

-- the clock by its select: `CS_SYNC`
abbrev pub cs_sync : List ℕ
cs_sync = stop ∷ 1 ∷ 8 ∷ 64 ∷ 256 ∷ 1024 ∷ falling ∷ rising ∷ []

-- and `CS_TIMER2`
abbrev pub cs_timer2 : List ℕ
cs_timer2 = stop ∷ 1 ∷ 8 ∷ 32 ∷ 64 ∷ 128 ∷ 256 ∷ 1024 ∷ []

-- the mode number joins bits 4:3 (wide) or 3 (narrow) of TCCRnB above bits 1:0 of TCCRnA
unfoldable pub mode_at : Bool → ℕ → ℕ → ℕ
mode_at wide tccra tccrb = cond wide (tccrb / 8 % 4 * 4 + tccra % 4) (tccrb / 8 % 2 * 4 + tccra % 4)

-- the kind of a mode, by width
unfoldable pub kind_at : Bool → ℕ → ℕ
kind_at wide mode = cond wide (get_or wide_kinds mode 0) (get_or narrow_kinds mode 0)

-- where a mode's TOP comes from, by width
unfoldable pub source_at : Bool → ℕ → ℕ
source_at wide mode = cond wide (get_or wide_sources mode 0) (get_or narrow_sources mode 0)

-- the TOP that a mode fixes, by width
unfoldable pub fixed_at : Bool → ℕ → ℕ
fixed_at wide mode = cond wide (get_or wide_tops mode 0) (get_or narrow_tops mode 0)

-- MAX
unfoldable pub max_at : Bool → ℕ
max_at wide = cond wide 0xFFFF 0xFF

-- COM 1 toggles channel A in these PWM modes too (01, "Outputs and pins")
unfoldable pub toggles_at : Bool → ℕ → Bool
toggles_at wide mode = cond wide (eqb mode 9 || eqb mode 11 || eqb mode 15) (eqb mode 5 || eqb mode 7)

-- clock select 0 to 7 takes one of the two tables
abbrev pub clock_at : ℕ → ℕ → ℕ
clock_at clocks select = cond (eqb clocks 0) (get_or cs_sync select 0) (get_or cs_timer2 select 0)

-- the cycles a tick of a clock that is a divisor; 0 where it is stopped or the T pin's
unfoldable pub divisor_at : ℕ → ℕ → ℕ
divisor_at clocks select = cond (leb (clock_at clocks select) 1024) (clock_at clocks select) 0

-- the clock is the T pin's edge to a level: T pin falling, T pin rising
unfoldable pub chosen : ℕ → ℕ → ℕ → Bool
chosen clocks select level = eqb (clock_at clocks select) falling && eqb level 0 || eqb (clock_at clocks select) rising && eqb level 1

-- the timer's mode number
unfoldable pub mode_of : Timer → ℕ
mode_of t = mode_at t.config.wide t.registers.tccra t.registers.tccrb

-- what decides the count: the mode's kind and TOP, MAX, ICRn, and which compares there are
unfoldable pub wave_of : Timer → ℕ → Wave
wave_of t mode = record { kind = kind_at t.config.wide mode; source = source_at t.config.wide mode; fixed = fixed_at t.config.wide mode; max = max_at t.config.wide; icr = t.registers.icr; a = t.config.a.present; b = t.config.b.present; c = t.config.c.present }

-- the timer's divisor: clock select is bits 2:0 of TCCRnB
unfoldable pub divisor_of : Timer → ℕ
divisor_of t = divisor_at t.config.clocks (t.registers.tccrb % 8)

-- the timer's prescaler
abbrev pub prescaler_of : Timer → Prescaler
prescaler_of t = record { origin = t.clock.origin; divisor = divisor_of t }

-- sleep, power reduction or TSM hold the counter
unfoldable pub held_of : Timer → Bool
held_of t = holding t.halts

-- it runs if a divisor is selected and nothing holds it
unfoldable pub running_of : Timer → Bool
running_of t = ltb 0 (divisor_of t) && not (held_of t)
