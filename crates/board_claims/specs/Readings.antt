-- Readings on the board (02, 2.6), and T1 to T10 of 01 on its Timer0 and Timer1: for each the orders, and what they must tell.
use Rattle.std.specs.Prelude.{ℕ, zero, suc, ◌*◌, ◌^◌, List, [], ◌∷◌, ◌++◌, ◌≡◌, take, replicate}
use Rattle.wave.specs.Count.{negative}
use Rattle.passage.specs.Passage.{ticks}
use Rattle.answers.specs.Answers.{Values, refused, none, byte}
use Rattle.timer.specs.declared.calls.Call.{Call}
use Rattle.timer.specs.declared.calls.Call.TheVariants as call
use Rattle.timer.specs.Readings.{Step, Reading, readings_with}
use Rattle.m328p.specs.declared.Id.{Id}
use Rattle.m328p.specs.declared.Id.TheVariants as id
use Rattle.aims.specs.declared.Order.{Order}
use Rattle.aims.specs.declared.Order.TheVariants as order
use Rattle.board.specs.declared.state.Board.{Board}
use Rattle.board.specs.State.{timer_of, fresh_board}
use Rattle.board.specs.Calls.{Areas, Told, told}

-- an area of 110 bytes for each timer
abbrev pub room : Areas
room = record { zero = replicate 110 0; one = replicate 110 0; two = replicate 110 0 }

-- ---- T1 to T10 on the board

-- a timer's TIFRn and TIMSKn
abbrev pub tifr_of : Id → ℕ
tifr_of id.Zero = 0x35
tifr_of id.One = 0x36
tifr_of id.Two = 0x37

abbrev pub timsk_of : Id → ℕ
timsk_of id.Zero = 0x6E
timsk_of id.One = 0x6F
timsk_of id.Two = 0x70

-- a timer's call as an order to the board
abbrev pub order_of : Id → Call → Order
order_of i call.Advance = order.Advance i
order_of i call.Next = order.Next i
order_of i (call.Read address) = order.Read address
order_of i (call.Peek address) = order.Peek address
order_of i (call.Write address value) = order.Write address value
order_of i call.Tifr = order.Read (tifr_of i)
order_of i call.Timsk = order.Read (timsk_of i)
order_of i (call.WriteTifr ones) = order.Write (tifr_of i) ones
order_of i (call.WriteTimsk mask) = order.Write (timsk_of i) mask
order_of i (call.Edge pin level) = order.Edge i pin level
order_of i (call.Output level) = order.Output i level
order_of i (call.Route level) = order.Route i level
order_of i (call.Sleep mode) = order.Sleep mode
order_of i call.Wake = order.Wake
order_of i (call.Reduce mask) = order.Reduce mask
order_of i (call.Tsm level) = order.Write 0x43 (level * 0x80)
order_of i (call.Prescale mask) = order.Write 0x43 mask
order_of i call.Reset = order.Reset i

-- the bytes written in a timer's area
abbrev pub bytes_of : Told → Id → List ℕ
bytes_of x id.Zero = take x.written.zero x.areas.zero
bytes_of x id.One = take x.written.one x.areas.one
bytes_of x id.Two = take x.written.two x.areas.two

-- a timer's steps as the board tells them
unfoldable pub played_on : Board → Id → List Step → List Step
played_on b i [] = []
played_on b i (s ∷ ss) =
    let x = told ticks b (order_of i s.call) s.cycle room in
    record { call = s.call; cycle = s.cycle; number = x.number; values = x.values; bytes = bytes_of x i; falling = negative (timer_of x.board i).counter.direction } ∷ played_on x.board i ss

-- the timer of a reading
abbrev pub id_of : ℕ → Id
id_of zero = id.Zero
id_of (suc n) = id.One

-- every reading of 01 on a fresh board
unfoldable pub replayed_on : List Reading → List Reading
replayed_on [] = []
replayed_on (r ∷ rs) = record { timer = r.timer; steps = played_on fresh_board (id_of r.timer.id) r.steps } ∷ replayed_on rs

-- ---- the board's own

-- an order at a cycle, with the number, the values and the bytes of each timer that it must tell
pub record Beat : Type 0 where
  pub order : Order
  pub cycle : ℕ
  pub number : ℕ
  pub values : Values
  pub zero : List ℕ
  pub one : List ℕ
  pub two : List ℕ

-- beats as the board tells them
unfoldable pub played : Board → List Beat → List Beat
played b [] = []
played b (s ∷ ss) =
    let x = told ticks b s.order s.cycle room in
    record { order = s.order; cycle = s.cycle; number = x.number; values = x.values; zero = bytes_of x id.Zero; one = bytes_of x id.One; two = bytes_of x id.Two } ∷ played x.board ss

-- an order that says values, and writes no record
abbrev pub says : Order → ℕ → Values → Beat
says o cycle v = record { order = o; cycle = cycle; number = 0; values = v; zero = []; one = []; two = [] }

-- an order done
abbrev pub does : Order → ℕ → Beat
does o cycle = says o cycle none

-- an order done, with the records of each timer
abbrev pub records : Order → ℕ → List ℕ → List ℕ → List ℕ → Beat
records o cycle a b c = record { order = o; cycle = cycle; number = 0; values = none; zero = a; one = b; two = c }

-- an order refused
abbrev pub refuses : Order → ℕ → ℕ → Beat
refuses o cycle n = record { order = o; cycle = cycle; number = n; values = refused; zero = []; one = []; two = [] }

-- compares far off: OCRnA and OCRnB of each timer at MAX
abbrev pub far : List Beat
far =
    does (order.Write 0x47 0xFF) 0 ∷ does (order.Write 0x48 0xFF) 0 ∷ does (order.Write 0x89 0xFF) 0 ∷ does (order.Write 0x88 0xFF) 0 ∷ does (order.Write 0x8B 0xFF) 0 ∷ does (order.Write 0x8A 0xFF) 0
    ∷ does (order.Write 0xB3 0xFF) 0 ∷ does (order.Write 0xB4 0xFF) 0 ∷ []

-- the three started one after the other under TSM count in step after its release
abbrev pub in_step : List Beat
in_step =
    far
    ++ (does (order.Write 0x43 0x83) 0 ∷ does (order.Write 0x45 0x01) 3 ∷ does (order.Write 0x81 0x01) 20 ∷ does (order.Write 0xB1 0x01) 50 ∷ says (order.Peek 0x46) 90 (byte 0) ∷ does (order.Write 0x43 0) 100
    ∷ says (order.Peek 0x46) 150 (byte 50) ∷ says (order.Peek 0x84) 150 (byte 50) ∷ says (order.Peek 0xB2) 150 (byte 50) ∷ [])

-- GTCCR written and read back, at any cycle
abbrev pub gtccr : List Beat
gtccr =
    does (order.Write 0x43 0x83) 5 ∷ says (order.Read 0x43) 0 (byte 0x83) ∷ does (order.Write 0x43 0x03) 5 ∷ says (order.Read 0x43) (2 ^ 63) (byte 0) ∷ does (order.Write 0x43 0x80) 5 ∷ says (order.Read 0x43) 5 (byte 0x80)
    ∷ does (order.Write 0x43 0) 5 ∷ says (order.Peek 0x43) 5 (byte 0) ∷ []

-- Timer1 asleep alone, since the others were reset: it refuses a second sleep with 7, and none of the three sleeps; a PRR write passes, and holds Timer0 alone
abbrev pub asleep : List Beat
asleep =
    far
    ++ (does (order.Sleep 2) 10 ∷ does (order.Reset id.Zero) 20 ∷ does (order.Reset id.Two) 20 ∷ does (order.Write 0x47 0xFF) 20 ∷ does (order.Write 0x48 0xFF) 20 ∷ does (order.Write 0xB3 0xFF) 20 ∷ does (order.Write 0xB4 0xFF) 20
    ∷ does (order.Write 0x45 0x01) 30 ∷ does (order.Write 0xB1 0x01) 30 ∷ refuses (order.Sleep 2) 40 7 ∷ refuses (order.Write 0x43 0x80) 40 7 ∷ does (order.Reduce 0x20) 50 ∷ says (order.Peek 0x46) 90 (byte 20) ∷ says (order.Peek 0xB2) 90 (byte 60)
    ∷ does order.Wake 100 ∷ says (order.Peek 0xB2) 110 (byte 80) ∷ [])

-- 16 comes before 2 and 3; an address that is a timer's has 2
abbrev pub sixteen : List Beat
sixteen =
    does (order.Write 0x6E 0xFF) 7 ∷ refuses (order.Read 0x00) (2 ^ 62) 16 ∷ refuses (order.Write 0x83 0) 6 16 ∷ refuses (order.Read 0x46) (2 ^ 62) 2 ∷ refuses (order.Read 0x6E) 6 3
    ∷ says (order.Read 0x6E) 7 (byte 0xFF) ∷ says (order.Read 0x6F) 0 (byte 0) ∷ []

-- the three started at once, each at clock / 1
abbrev pub started : List Beat
started = far ++ (does (order.Write 0x45 0x01) 0 ∷ does (order.Write 0x81 0x01) 0 ∷ does (order.Write 0xB1 0x01) 0 ∷ [])

-- the three counts at a cycle
abbrev pub counts : ℕ → ℕ → ℕ → ℕ → List Beat
counts cycle a b c = says (order.Peek 0x46) cycle (byte a) ∷ says (order.Peek 0x84) cycle (byte b) ∷ says (order.Peek 0xB2) cycle (byte c) ∷ []

-- power-save (3) and extended standby (7) leave Timer2 running; ADC noise reduction (1), power-down (2) and standby (6) halt all three
abbrev pub sleeps : List Beat
sleeps =
    started
    ++ (does (order.Sleep 3) 10 ∷ counts 20 10 10 20) ++ (does order.Wake 20 ∷ does (order.Sleep 7) 20 ∷ counts 30 10 10 30) ++ (does order.Wake 30 ∷ does (order.Sleep 1) 30 ∷ counts 40 10 10 30)
    ++ (does order.Wake 40 ∷ does (order.Sleep 2) 40 ∷ counts 50 10 10 30) ++ (does order.Wake 50 ∷ does (order.Sleep 6) 50 ∷ counts 60 10 10 30) ++ (does order.Wake 60 ∷ counts 70 20 20 40)

-- PRR's bit 20 holds Timer0, 08 Timer1, 40 Timer2, and no other bit one of them
abbrev pub reduced : List Beat
reduced =
    started
    ++ (does (order.Reduce 0x20) 10 ∷ counts 20 10 20 20) ++ (does (order.Reduce 0x08) 20 ∷ counts 30 20 20 30) ++ (does (order.Reduce 0x40) 30 ∷ counts 40 30 30 30)
    ++ (does (order.Reduce 0x97) 40 ∷ counts 50 40 40 40)

-- a pin taken over by a timer at cycle 0, low (01, "The record area")
abbrev pub driven : ℕ → List ℕ
driven pin = 0 ∷ 0 ∷ 0 ∷ 0 ∷ 0 ∷ 0 ∷ 0 ∷ 0 ∷ pin ∷ 0x80 ∷ []

-- a capture of Timer1 at a cycle: ICF, and trigger 4
abbrev pub captured : ℕ → List ℕ
captured cycle = 0x40 ∷ 0 ∷ 0 ∷ 0 ∷ 0 ∷ 0 ∷ 0 ∷ cycle ∷ 0x20 ∷ 0 ∷ 0x80 ∷ 0 ∷ 0 ∷ 0 ∷ 0 ∷ 0 ∷ 0 ∷ cycle ∷ 0x40 ∷ 0x10 ∷ []

-- the nine pins of the DIP: OC0A 12, OC0B 11, OC1A 15, OC1B 16, OC2A 17, OC2B 5, T0 6, T1 11, ICP1 14
abbrev pub pins : List Beat
pins =
    far
    ++ (records (order.Write 0x44 0x50) 0 (driven 12 ++ driven 11) [] [] ∷ records (order.Write 0x80 0x50) 0 [] (driven 15 ++ driven 16) [] ∷ records (order.Write 0xB0 0x50) 0 [] [] (driven 17 ++ driven 5)
    ∷ does (order.Write 0x45 0x07) 0 ∷ does (order.Write 0x81 0x47) 0 ∷ does (order.Edge id.Zero 6 1) 1 ∷ does (order.Edge id.Zero 11 1) 2 ∷ does (order.Edge id.One 11 1) 3 ∷ does (order.Edge id.One 6 1) 4
    ∷ records (order.Edge id.One 14 1) 5 [] (captured 5) [] ∷ says (order.Peek 0x86) 5 (byte 1) ∷ counts 6 1 1 0)

-- TIFR and TIMSK by a timer's id, and at the sheet's addresses
abbrev pub flags : List Beat
flags =
    does (order.Write 0x81 0x40) 0 ∷ records (order.Edge id.One 14 1) 3 [] (captured 3) [] ∷ says (order.Tifr id.One) 3 (byte 0x20) ∷ says (order.Tifr id.Zero) 3 (byte 0) ∷ says (order.Read 0x36) 3 (byte 0x20)
    ∷ does (order.WriteTifr id.One 0x20) 4 ∷ says (order.Tifr id.One) 4 (byte 0) ∷ does (order.WriteTimsk id.Two 0x07) 5 ∷ says (order.Timsk id.Two) 5 (byte 0x07) ∷ says (order.Read 0x70) 5 (byte 0x07)
    ∷ says (order.Timsk id.One) 5 (byte 0) ∷ refuses (order.Tifr id.One) 4 3 ∷ refuses (order.WriteTimsk id.Zero 0) (2 ^ 62) 2 ∷ []

-- every reading of the board
abbrev pub beats : List (List Beat)
beats = in_step ∷ gtccr ∷ asleep ∷ sixteen ∷ sleeps ∷ reduced ∷ pins ∷ flags ∷ []

-- each on a fresh board
unfoldable pub replayed : List (List Beat) → List (List Beat)
replayed [] = []
replayed (s ∷ ss) = played fresh_board s ∷ replayed ss

-- Readings: T1 to T10 as the bench answers them, and the board's own, by computation
pub record Readings : Type 0 where
  pub timers : replayed_on (readings_with 1) ≡ readings_with 1
  pub board : replayed beats ≡ beats
