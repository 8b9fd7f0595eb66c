-- The readings T1 to T10 on the bench (01, "Readings on the bench") and that of 02, 2.5: for each the timer, the calls, and what they must answer.
-- The sheet: nothing of its own, readings are 01's.
use Rattle.std.specs.Prelude.{ℕ, ◌*◌, Bool, true, false, List, [], ◌∷◌, ◌++◌, ◌≡◌, take, replicate}
use Rattle.config.specs.declared.Config.{Config}
use Rattle.counter.specs.declared.next.Next.TheVariants.{At}
use Rattle.counter.specs.declared.state.Timer.{Timer}
use Rattle.counter.specs.Fresh.{fresh_of}
use Rattle.m328p.specs.Timers.{timer0, timer1}
use Rattle.passage.specs.Passage.{ticks}
use Rattle.wave.specs.Count.{negative}
use Rattle.timer.specs.declared.calls.Call.{Call}
use Rattle.timer.specs.declared.calls.Call.TheVariants.{Advance, Next, Read, Peek, Write, Edge, Tifr, Sleep, Wake}
use Rattle.answers.specs.Answers.{Values, none, byte, event, reached, Told}
use Rattle.timer.specs.Calls.{answered}

-- a call at a cycle, the number, the values and the bytes that it must answer, and whether the direction is then down
pub record Step : Type 0 where
  pub call : Call
  pub cycle : ℕ
  pub number : ℕ
  pub values : Values
  pub bytes : List ℕ
  pub falling : Bool

-- what an outcome says of a step
abbrev pub shown : Step → Told → Step
shown s x = record { call = s.call; cycle = s.cycle; number = x.number; values = x.values; bytes = take x.written x.area; falling = negative x.timer.counter.direction }

-- the steps as the plain counter answers them, each with an area of 110 bytes
unfoldable pub played : Timer → List Step → List Step
played t [] = []
played t (s ∷ ss) = shown s (answered ticks t s.call s.cycle (replicate 110 0)) ∷ played (answered ticks t s.call s.cycle (replicate 110 0)).timer ss

-- an accepted call that leaves the direction up
abbrev pub up : Call → ℕ → Values → List ℕ → Step
up call cycle values bytes = record { call = call; cycle = cycle; number = 0; values = values; bytes = bytes; falling = false }

-- a step that leaves it down
abbrev pub down : Step → Step
down s = record { call = s.call; cycle = s.cycle; number = s.number; values = s.values; bytes = s.bytes; falling = true }

-- a register written
abbrev pub writes : ℕ → ℕ → ℕ → Step
writes address value cycle = up (Write address value) cycle none []

-- a register peeked
abbrev pub reads : ℕ → ℕ → ℕ → Step
reads address cycle value = up (Peek address) cycle (byte value) []

-- a register read as a program does
abbrev pub gives : ℕ → ℕ → ℕ → Step
gives address cycle value = up (Read address) cycle (byte value) []

-- the next event asked for: its cycle, and the flags that its tick will raise (02, 2.2)
abbrev pub announces : ℕ → ℕ → ℕ → Step
announces cycle next raise = up Next cycle (event (At (record { 0 = next }) raise)) []

-- an advance that gets there, with its records, and the flags of the then next event (02, 2.2)
abbrev pub reaches : ℕ → List ℕ → ℕ → Step
reaches cycle bytes raise = up Advance cycle (reached raise) bytes

-- flags raised at a cycle below 2^16, with no line high
abbrev pub flags : ℕ → ℕ → ℕ → List ℕ
flags high low raised = 0x40 ∷ 0 ∷ 0 ∷ 0 ∷ 0 ∷ 0 ∷ high ∷ low ∷ raised ∷ 0 ∷ []

-- a trigger of a timer with an id below 16
abbrev pub trigger_of : ℕ → ℕ → ℕ → ℕ → List ℕ
trigger_of id high low k = 0x80 ∷ 0 ∷ 0 ∷ 0 ∷ 0 ∷ 0 ∷ high ∷ low ∷ k ∷ id * 16 ∷ []

-- one of timer 0
abbrev pub trigger : ℕ → ℕ → ℕ → List ℕ
trigger = trigger_of 0

-- A is flag 2 and trigger 1
abbrev pub match_a : ℕ → ℕ → List ℕ
match_a high low = flags high low 2 ++ trigger high low 0x10

-- B is flag 4 and trigger 2
abbrev pub match_b : ℕ → ℕ → List ℕ
match_b high low = flags high low 4 ++ trigger high low 0x20

-- TOV is flag 1 and trigger 3
abbrev pub overflow : ℕ → ℕ → List ℕ
overflow high low = flags high low 1 ++ trigger high low 0x30

-- a timer and its steps
pub record Reading : Type 0 where
  pub timer : Config
  pub steps : List Step

-- CTC with OCR0A 124 and OCR0B 200 at /64
abbrev pub ctc : List Step
ctc = writes 0x44 0x02 0 ∷ writes 0x47 124 0 ∷ writes 0x48 200 0 ∷ writes 0x45 0x03 0 ∷ []

-- a timer with another id
abbrev pub id_to : Config → ℕ → Config
id_to c id = record { id = id; wide = c.wide; layout = c.layout; tccra = c.tccra; tccrb = c.tccrb; foc = c.foc; tcnt = c.tcnt; a = c.a; b = c.b; c = c.c; icr = c.icr; tov = c.tov; t = c.t; clocks = c.clocks; group = c.group; prr = c.prr; sleeprun = c.sleeprun }

-- ICR1 is 125, its high byte and its low byte, and ICF1 is set
abbrev pub icr_and_flags : ℕ → List Step
icr_and_flags cycle = reads 0x87 cycle 0 ∷ reads 0x86 cycle 125 ∷ up Tifr cycle (byte 0x20) [] ∷ []

-- T1 to T10, T8 and T9 of a Timer1 with an id; then a door program's reads of count, compare and count (02, 2.5), in a mode that buffers the compare
abbrev pub readings_with : ℕ → List Reading
readings_with id =
    record {
      timer = timer0;
      steps =
          writes 0x45 0x01 0 ∷ announces 0 1 6 ∷ reaches 1 (flags 0 1 6 ++ trigger 0 1 0x10 ++ trigger 0 1 0x20) 1 ∷ announces 1 256 1 ∷ [];
    }
    ∷ record { timer = timer0; steps = ctc ++ (announces 0 8000 2 ∷ reaches 8000 (match_a 0x1F 0x40) 2 ∷ announces 8000 16000 2 ∷ []) }
    ∷ record { timer = timer0; steps = ctc ++ (writes 0x46 124 0 ∷ announces 0 64 0 ∷ reaches 64 [] 2 ∷ reads 0x46 64 0 ∷ announces 64 8064 2 ∷ []) }
    ∷ record {
      timer = timer0;
      steps =
          writes 0x44 0x02 0 ∷ writes 0x47 10 0 ∷ writes 0x48 200 0 ∷ writes 0x46 11 0 ∷ writes 0x45 0x01 0
          ∷ announces 0 190 4 ∷ reaches 190 (match_b 0 190) 1 ∷ announces 190 245 1 ∷ reaches 245 (overflow 0 245) 2 ∷ announces 245 256 2 ∷ reaches 256 (match_a 1 0) 2 ∷ [];
    }
    ∷ record {
      timer = timer0;
      steps =
          writes 0x47 100 0 ∷ writes 0x48 255 0 ∷ writes 0x44 0x01 0 ∷ writes 0x45 0x01 0
          ∷ announces 0 101 2 ∷ reaches 101 (match_a 0 101) 4 ∷ down (reaches 256 (match_b 1 0) 2) ∷ down (reaches 411 (match_a 1 155) 1) ∷ reaches 511 (overflow 1 255) 2 ∷ [];
    }
    ∷ record {
      timer = timer0;
      steps =
          writes 0x47 0 0 ∷ writes 0x48 200 0 ∷ writes 0x44 0x01 0 ∷ writes 0x45 0x09 0
          ∷ announces 0 1 2 ∷ down (reaches 1 (match_a 0 1) 3) ∷ reaches 2 (flags 0 2 3 ++ trigger 0 2 0x10 ++ trigger 0 2 0x30) 2 ∷ [];
    }
    ∷ record {
      timer = timer0;
      steps =
          writes 0x47 100 0 ∷ writes 0x48 255 0 ∷ writes 0x44 0x01 0 ∷ writes 0x45 0x01 0
          ∷ down (reaches 300 (match_a 0 101 ++ match_b 1 0) 2) ∷ down (reads 0x46 300 210) ∷ down (writes 0x44 0x00 300)
          ∷ down (reads 0x46 320 230) ∷ down (announces 320 346 5) ∷ [];
    }
    ∷ record {
      timer = id_to timer1 id;
      steps =
          writes 0x89 0x3D 0 ∷ writes 0x88 0x08 0 ∷ writes 0x8B 0xFF 0 ∷ writes 0x8A 0xFF 0 ∷ writes 0x81 0x0D 0 ∷ announces 0 16000000 2 ∷ [];
    }
    ∷ record {
      timer = id_to timer1 id;
      steps =
          writes 0x89 0xFF 0 ∷ writes 0x88 0xFF 0 ∷ writes 0x8B 0xFF 0 ∷ writes 0x8A 0xFF 0 ∷ writes 0x81 0x42 0
          ∷ up (Edge 14 1) 1003 none (flags 0x03 0xEB 0x20 ++ trigger_of id 0x03 0xEB 0x40) ∷ icr_and_flags 1003 ++ (up (Edge 14 0) 1100 none [] ∷ icr_and_flags 1100)
          ++ (announces 1100 524288 7 ∷ []);
    }
    ∷ record {
      timer = timer0;
      steps =
          writes 0x47 200 0 ∷ writes 0x48 200 0 ∷ writes 0x45 0x03 0 ∷ up (Sleep 2) 100 none []
          ∷ up Wake 1000 none [] ∷ reads 0x46 1000 1 ∷ announces 1000 13764 6 ∷ [];
    }
    ∷ record {
      timer = timer1;
      steps =
          writes 0x80 0x01 0 ∷ writes 0x81 0x08 0 ∷ writes 0x89 0x56 0 ∷ writes 0x88 0x78 0 ∷ writes 0x85 0x12 0 ∷ writes 0x84 0x34 0
          ∷ gives 0x84 0 0x34 ∷ gives 0x89 0 0x56 ∷ gives 0x88 0 0x78 ∷ gives 0x85 0 0x12 ∷ [];
    }
    ∷ []

-- all with id 0, as 01 has them; on the board Timer1 has 1
abbrev pub readings : List Reading
readings = readings_with 0

-- every reading, as the plain counter plays it
unfoldable pub replayed : List Reading → List Reading
replayed [] = []
replayed (r ∷ rs) = record { timer = r.timer; steps = played (fresh_of r.timer) r.steps } ∷ replayed rs

-- Readings: the plain counter answers them all as the bench does, by one claim over the list
abbrev pub Readings : Type 0
Readings = replayed readings ≡ readings
