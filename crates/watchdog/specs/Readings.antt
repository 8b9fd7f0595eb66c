-- Readings of a watchdog on the bench (02, 2.8; the sheet, "Watchdog Timer"): for each the calls, and what they must answer. At p 0 a time-out comes 256,000 cycles on.
use Rattle.std.specs.Prelude.{ℕ, List, [], ◌∷◌, ◌≡◌, take, replicate, Some, None}
use Rattle.oscillator.specs.declared.state.Watchdog.{Watchdog}
use Rattle.oscillator.specs.State.{fresh}
use Rattle.oscillator.specs.Oscillator.{Passage, ticks}
use Rattle.watchdog.specs.declared.calls.Call.{Call}
use Rattle.watchdog.specs.declared.calls.Call.TheVariants.{Advance, Next, Wdr, Serve, Read, Write}
use Rattle.watchdog.specs.Outcome.{Values, refused, none, byte, event, paused, Told}
use Rattle.watchdog.specs.Calls.{answered}

-- a call at a cycle with so many bytes of area, the number, the values and the bytes that it must answer
pub record Step : Type 0 where
  pub call : Call
  pub cycle : ℕ
  pub room : ℕ
  pub number : ℕ
  pub values : Values
  pub bytes : List ℕ

-- a step as a passage of time answers it
abbrev pub told_of : Passage → Watchdog → Step → Told
told_of p w s = answered p w s.call s.cycle (replicate s.room 0)

-- what an outcome says of a step
abbrev pub shown : Step → Told → Step
shown s x = record { call = s.call; cycle = s.cycle; room = s.room; number = x.number; values = x.values; bytes = take x.written x.area }

-- the steps as a passage of time answers them
unfoldable pub played : Passage → Watchdog → List Step → List Step
played p w [] = []
played p w (s ∷ ss) = shown s (told_of p w s) ∷ played p (told_of p w s).watchdog ss

-- WDTCSR written, and read
abbrev pub sets : ℕ → ℕ → Step
sets value cycle = record { call = Write value; cycle = cycle; room = 0; number = 0; values = none; bytes = [] }

abbrev pub reads : ℕ → ℕ → Step
reads value cycle = record { call = Read; cycle = cycle; room = 0; number = 0; values = byte value; bytes = [] }

-- WDR, and the interrupt served
abbrev pub rewinds : ℕ → Step
rewinds cycle = record { call = Wdr; cycle = cycle; room = 0; number = 0; values = none; bytes = [] }

abbrev pub serves : ℕ → Step
serves cycle = record { call = Serve; cycle = cycle; room = 0; number = 0; values = none; bytes = [] }

-- the next event asked for, and none
abbrev pub announces : ℕ → ℕ → Step
announces cycle at = record { call = Next; cycle = cycle; room = 0; number = 0; values = event (Some (record { 0 = at })); bytes = [] }

abbrev pub announces_none : ℕ → Step
announces_none cycle = record { call = Next; cycle = cycle; room = 0; number = 0; values = event None; bytes = [] }

-- an advance that gets there, with its records; and one that stops for want of area
abbrev pub reaches : ℕ → List ℕ → Step
reaches cycle bytes = record { call = Advance; cycle = cycle; room = 30; number = 0; values = none; bytes = bytes }

abbrev pub stops : ℕ → ℕ → ℕ → List ℕ → Step
stops cycle room at bytes = record { call = Advance; cycle = cycle; room = room; number = 0; values = paused at; bytes = bytes }

-- a call turned away
abbrev pub refuses : Call → ℕ → ℕ → Step
refuses call cycle number = record { call = call; cycle = cycle; room = 0; number = number; values = refused; bytes = [] }

-- a record of kind 3 at a cycle of three bytes: an interrupt, a reset
abbrev pub interrupts : ℕ → ℕ → ℕ → List ℕ
interrupts a b c = 0xC0 ∷ 0 ∷ 0 ∷ 0 ∷ 0 ∷ a ∷ b ∷ c ∷ 0 ∷ 1 ∷ []

abbrev pub resets : ℕ → ℕ → ℕ → List ℕ
resets a b c = 0xC0 ∷ 0 ∷ 0 ∷ 0 ∷ 0 ∷ a ∷ b ∷ c ∷ 0 ∷ 2 ∷ []

-- time-outs at 256,000 (03E800), 512,000 (07D000) and 768,000 (0BB800)
abbrev pub readings : List (List Step)
readings =
    -- stopped: nothing is announced, and no count is kept
    (announces_none 0 ∷ reaches 1000000 [] ∷ reads 0x00 1000000 ∷ sets 0x40 1000000 ∷ announces 1000000 1256000 ∷ [])
    -- interrupt mode: each time-out interrupts, also with the flag still set; served, the enable stays
    ∷ (sets 0x40 0 ∷ announces 0 256000 ∷ reaches 256000 (interrupts 0x03 0xE8 0x00) ∷ reads 0xC0 256000 ∷ reaches 512000 (interrupts 0x07 0xD0 0x00) ∷ serves 512000 ∷ reads 0x40 512000 ∷ announces 512000 768000 ∷ [])
    -- reset mode: it restarts with WDE set and runs on; serving has no effect
    ∷ (sets 0x08 0 ∷ reaches 256000 (resets 0x03 0xE8 0x00) ∷ reads 0x08 256000 ∷ serves 256000 ∷ reads 0x08 256000 ∷ announces 256000 512000 ∷ [])
    -- interrupt, then reset: the flag still set
    ∷ (sets 0x48 0 ∷ reaches 256000 (interrupts 0x03 0xE8 0x00) ∷ reads 0xC8 256000 ∷ reaches 512000 (resets 0x07 0xD0 0x00) ∷ reads 0x08 512000 ∷ [])
    -- interrupt, served: the enable is cleared, and the next time-out resets
    ∷ (sets 0x48 0 ∷ serves 10 ∷ reads 0x48 10 ∷ reaches 256000 (interrupts 0x03 0xE8 0x00) ∷ serves 256010 ∷ reads 0x08 256010 ∷ reaches 512000 (resets 0x07 0xD0 0x00) ∷ [])
    -- interrupt, its flag cleared by a one: the next time-out interrupts again
    ∷ (sets 0x48 0 ∷ reaches 256000 (interrupts 0x03 0xE8 0x00) ∷ sets 0xC8 256001 ∷ reads 0x48 256001 ∷ reaches 512000 (interrupts 0x07 0xD0 0x00) ∷ [])
    -- the timed sequence: four cycles on WDE is cleared and p taken, and with the interrupt off it stops
    ∷ (sets 0x18 100 ∷ reads 0x18 104 ∷ sets 0x21 104 ∷ reads 0x21 104 ∷ announces_none 104 ∷ [])
    -- five cycles on it is too late: WDE stays, p stays
    ∷ (sets 0x18 100 ∷ reads 0x08 105 ∷ sets 0x21 105 ∷ reads 0x08 105 ∷ announces 105 256000 ∷ [])
    -- outside the sequence WDE is set and not cleared; a write between shuts it, another of WDCE and WDE opens it anew
    ∷ (sets 0x0F 0 ∷ reads 0x08 0 ∷ sets 0x00 1 ∷ reads 0x08 1 ∷ sets 0x18 2 ∷ sets 0x08 3 ∷ sets 0x00 4 ∷ reads 0x08 4 ∷ sets 0x18 5 ∷ sets 0x18 8 ∷ sets 0x07 12 ∷ reads 0x07 12 ∷ [])
    -- a period lowered below the count times out at the next tick: p 9, then p 0 at 1,000,000
    ∷ (sets 0x18 0 ∷ sets 0x29 1 ∷ announces 1 131072000 ∷ sets 0x18 1000000 ∷ sets 0x08 1000001 ∷ announces 1000001 1000125 ∷ reaches 1000125 (resets 0x0F 0x42 0xBD) ∷ [])
    -- 17 in the sequence, which it leaves open; outside the same bits are passed over, as with WDCE
    ∷ (sets 0x2A 0 ∷ sets 0x18 1 ∷ refuses (Write 0x2A) 2 17 ∷ reads 0x18 5 ∷ sets 0x3A 5 ∷ reads 0x18 5 ∷ sets 0x09 9 ∷ reads 0x09 9 ∷ [])
    -- WDR just before a time-out; from its cycle on there is none
    ∷ (sets 0x08 0 ∷ rewinds 255999 ∷ announces 255999 511875 ∷ refuses Wdr 511875 6 ∷ refuses Read 255998 3 ∷ refuses (Write 0) 0x4000000000000000 2 ∷ reaches 511875 (resets 0x07 0xCF 0x83) ∷ [])
    -- 6 before 17
    ∷ (sets 0x40 0 ∷ sets 0x58 255999 ∷ refuses (Write 0x2A) 256000 6 ∷ reaches 256000 (interrupts 0x03 0xE8 0x00) ∷ refuses (Write 0x2A) 256001 17 ∷ [])
    -- an advance stops before a time-out whose record does not fit, and goes on from there
    ∷ (sets 0x40 0 ∷ stops 600000 19 511875 (interrupts 0x03 0xE8 0x00) ∷ announces 511875 512000 ∷ stops 600000 9 511875 [] ∷ reaches 600000 (interrupts 0x07 0xD0 0x00) ∷ [])
    ∷ []

-- every reading, as a passage of time plays it
unfoldable pub replayed : Passage → List (List Step) → List (List Step)
replayed p [] = []
replayed p (r ∷ rs) = played p fresh r ∷ replayed p rs

-- Readings: one oscillator tick at a time, the watchdog answers so, by one claim over the list
abbrev pub Readings : Type 0
Readings = replayed ticks readings ≡ readings
