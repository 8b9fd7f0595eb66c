-- A door time by overflows and remainder, with a clock write, a pause, a sleep and a T edge in it (02, 2.11).
use Rattle.std.specs.Prelude.{ℕ, List, [], ◌∷◌, ◌≡◌, replicate}
use Rattle.counter.specs.declared.state.Timer.{Timer}
use Rattle.counter.specs.Fresh.{fresh_of}
use Rattle.passage.specs.Passage.{ticks}
use Rattle.timer.specs.declared.calls.Call.{Call}
use Rattle.timer.specs.declared.calls.Call.TheVariants.{Advance, Write, Edge, Sleep, Wake}
use Rattle.timer.specs.Claims.{Request, outcomes, last}
use Rattle.m328p.specs.Timers.{timer0}
use Rattle.account.specs.Account.{overflows, Counting, ticks_made}

-- a call at a cycle, with an area of so many bytes
abbrev pub asked : Call → ℕ → ℕ → Request
asked call cycle room = record { call = call; cycle = cycle; area = replicate room 0 }

-- Timer0 from /1 on: 600 ticks, the advance paused once for want of space; asleep from 600 to 1000; 10 ticks; one edge of the T pin; 9 ticks of /8
abbrev pub door_time : List Request
door_time =
    asked (Write 0x45 0x01) 0 110 ∷ asked Advance 600 30 ∷ asked Advance 600 110 ∷ asked (Sleep 2) 600 110 ∷ asked Wake 1000 110
    ∷ asked (Write 0x45 0x07) 1010 110 ∷ asked (Edge 6 1) 1020 110 ∷ asked (Write 0x45 0x02) 1030 110 ∷ asked Advance 1100 110 ∷ []

-- the plain counter's: 620 ticks are two overflows and a count of 108
pub record DoorTime (t : Timer) : Type 0 where
  pub counting : Counting t door_time
  pub made : ticks_made t door_time ≡ 620
  pub raised : overflows 1 (outcomes ticks t door_time) ≡ 2
  pub count : (last ticks t door_time).counter.count ≡ 108
  pub odometer : (last ticks t door_time).counter.odometer ≡ 620

-- of Timer0 of the ATmega328P
abbrev pub Reading : Type 0
Reading = DoorTime (fresh_of timer0)
