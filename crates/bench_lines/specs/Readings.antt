-- Readings of scripts from their first line on: a line, and the bytes that must answer it.
use Rattle.std.specs.Prelude.{◌≡◌, ℕ, List, [], ◌∷◌, ◌++◌, replicate}
use Prim.Native.String.{String}
use mathlib.Core.List.{foldl}
use Rattle.figures.specs.Figures.{text}
use Rattle.linewise.specs.Claims.{lines_of}
use Rattle.bench_lines.specs.Desk.{fresh_bench, fresh_shelf}
use Rattle.bench_lines.specs.Named.{lent}
use Rattle.bench_lines.specs.Steps.{State, step_of}

-- the lines as a script
unfoldable pub script_of : List (String × String) → List ℕ
script_of [] = []
script_of (r ∷ rs) = text r.0 ++ 10 ∷ script_of rs

-- and all that answers it
unfoldable pub answers_of : List (String × String) → List ℕ
answers_of [] = []
answers_of (r ∷ rs) = text r.1 ++ answers_of rs

-- before its first line: the log's area is filled with A5, the list is empty, and what else is lent may hold anything
abbrev pub begun : List ℕ → List ℕ → List ℕ → State
begun room one two =
    record { bench = fresh_bench; shelf = fresh_shelf; lent = lent room (replicate 60000 0xA5) []; one = one; two = two; answers = [] }

-- one fold over its lines gives the answers
abbrev pub Reads : List (String × String) → Type 0
Reads rows = (room one two : List ℕ) → (foldl step_of (begun room one two) (lines_of (script_of rows))).answers ≡ answers_of rows

-- README, "A script of your own"
abbrev pub own : List (String × String)
own =
    ("preset m328p.timer0", "ok config\n")
    ∷ ("write 45 03 0 110      # TCCR0B: clock / 64", "ok value=- next=64 flags=06 bytes=0 records=-\n")
    ∷ ("write 47 7C 0 110      # OCR0A: 124", "ok value=- next=64 flags=04 bytes=0 records=-\n")
    ∷ ("advance 8000 110       # half a millisecond", "ok value=- next=16384 flags=01 bytes=40 records=40000000000000400400800000000000004020004000000000001f4002008000000000001f401000\n")
    ∷ ("read 46 8000 110       # TCNT0", "ok value=7d next=16384 flags=01 bytes=0 records=-\n")
    ∷ []

-- the fixed list up to the first of its readings, T1 (crates/bench/stdin)
abbrev pub list : List (String × String)
list =
    ("# ==== before any timer", "")
    ∷ ("state", "no timer\n")
    ∷ ("next 0 110", "no timer\n")
    ∷ ("advance 18446744073709551615 0", "no timer\n")
    ∷ ("read 46 0 110", "no timer\n")
    ∷ ("shift 0 1", "no timer\n")
    ∷ ("board state", "no timer\n")
    ∷ ("board advance 0 0 110", "no timer\n")
    ∷ ("board read 43 0 0", "no timer\n")
    ∷ ("", "")
    ∷ ("# ==== readings/T1.script", "")
    ∷ ("sched clear", "ok next=none\n")
    ∷ ("# T1 Timer0 TCCR0B=01: next 1. Advance to 1 with TIMSK 0 gives three records; next 256.", "")
    ∷ ("preset m328p.timer0", "ok config\n")
    ∷ ("write 45 01 0 110", "ok value=- next=1 flags=06 bytes=0 records=-\n")
    ∷ ("advance 1 110", "ok value=- next=256 flags=01 bytes=30 records=400000000000000106008000000000000001100080000000000000012000\n")
    ∷ ("state", "state count=1 dir=1 ocr=0,0,- buf=0,0,- icr=0 temp=00 oc=0,0,0 drive=00,00,- block=0 tccra=00 tccrb=01 tifr=06 timsk=00 lines=00000 sync=1 origin=0 asleep=0 prr=0 tsm=0 route=0 latest=1 odometer=1\n")
    ∷ []

-- the story of a lift door up to what its contact captured, one second (examples/door.script)
abbrev pub story : List (String × String)
story =
    ("# A lift door on the bench: the hold time, a contact that bounces, the motor's PWM, the way out of a soft stop, and a door", "")
    ∷ ("# program that hangs.", "")
    ∷ ("# The controller is an ATmega328P at 16 MHz, so 16,000 cycles are a millisecond. A call ends with its cycle and the", "")
    ∷ ("# bytes that its records may take. A record is 20 digits. The first tells the kind: 0 a pin, 4 flags, 8 word to the rest", "")
    ∷ ("# of the board, c the watchdog. Then comes the cycle, in hexadecimal, and the last four digits say what happened. Cycles rise from", "")
    ∷ ("# scene to scene, so that the whole is one log: make waves shows its pins.", "")
    ∷ ("", "")
    ∷ ("# 1. The door stands open and is held for three seconds. Timer1 counts to 46,874 (B71A) in steps of 1,024 cycles.", "")
    ∷ ("preset m328p.timer1", "ok config\n")
    ∷ ("# A match of compare A asks for the close: its request line is let through (bit 1 of TIMSK1).", "")
    ∷ ("wtimsk 02 0 110", "ok value=- next=none flags=- bytes=0 records=-\n")
    ∷ ("# OCR1A, high byte first. OCR1B goes to the top, out of the way.", "")
    ∷ ("write 89 B7 0 110", "ok value=- next=none flags=- bytes=0 records=-\n")
    ∷ ("write 88 1A 0 110", "ok value=- next=none flags=- bytes=0 records=-\n")
    ∷ ("write 8B FF 0 110", "ok value=- next=none flags=- bytes=0 records=-\n")
    ∷ ("write 8A FF 0 110", "ok value=- next=none flags=- bytes=0 records=-\n")
    ∷ ("# The match also turns pin 15 over (OC1A), the relay of the close. Look for 0f80: pin 15 (0f) is the timer's now, and low.", "")
    ∷ ("write 80 40 0 110", "ok value=- next=none flags=- bytes=10 records=00000000000000000f80\n")
    ∷ ("# CTC, clock / 1024, capture on a rising edge. Look for next=48000000: three seconds to the close, to the cycle.", "")
    ∷ ("write 81 4D 0 110", "ok value=- next=48000000 flags=02 bytes=0 records=-\n")
    ∷ ("", "")
    ∷ ("# 2. After one second somebody steps in: the contact on ICP1 (pin 14) opens, and bounces.", "")
    ∷ ("# Look for 2000 at the end of the first record: the capture flag. 4010 is the word of it, from Timer1.", "")
    ∷ ("edge 14 1 16000000 110", "ok value=- next=48000000 flags=02 bytes=20 records=4000000000f4240020008000000000f424004010\n")
    ∷ ("# ICR1, low byte first: 09, then 3d. 3D09 is 15,625 counts of 1,024 cycles, one second.", "")
    ∷ ("read 86 16000000 110", "ok value=09 next=48000000 flags=02 bytes=0 records=-\n")
    ∷ ("read 87 16000000 110", "ok value=3d next=48000000 flags=02 bytes=0 records=-\n")
    ∷ []

-- a line or two of every other kind (docs/SCRIPT.md)
abbrev pub others : List (String × String)
others =
    ("pin vcc=5.0 ext=analog volts=3.0", "ok level=1 volts=4008000000000000 changed=1 contention=0\n")
    ∷ ("sched at 1 2 5", "ok next=5\n")
    ∷ ("sched pop 5", "ok owner=1 tag=2 at=5 next=none\n")
    ∷ ("door one 100", "ok due=none\n")
    ∷ ("door edge 30", "ok due=130\n")
    ∷ ("log add 00000000000000020500", "ok held=1 place=0\n")
    ∷ ("log release 2", "refused 20\n")
    ∷ ("item 45 1 0", "ok items=1\n")
    ∷ ("writes 30 114040000000000000", "refused 12\n")
    ∷ ("preset m328p.timer0", "ok config\n")
    ∷ ("writes 30 1140400000000000000011C14000000000000001", "ok done=2 why=all bytes=30 records=400000000000000106008000000000000001100080000000000000012000\n")
    ∷ ("wdt new", "ok config\n")
    ∷ ("wdt write 40 0", "ok value=- next=256000 bytes=0 records=-\n")
    ∷ ("wdt state", "wdt count=0 wdif=0 wdie=1 wdce=0 wde=0 p=0 sync=0 latest=0\n")
    ∷ ("board new", "ok config\n")
    ∷ ("board write 45 01 0 110", "ok value=- next=1,none,none flags=06,-,- bytes=0,0,0 records=-,-,-\n")
    ∷ ("record", "ok recording\n")
    ∷ ("frob 1", "error line 18: unknown command\n")
    ∷ []

-- every one is answered so
pub record Readings : Type 0 where
  pub own : Reads own
  pub list : Reads list
  pub story : Reads story
  pub others : Reads others
