-- One tick, from the old count and the old TOP: what happens in it, and what it leaves (01, "Count, direction, next event").
-- The sheet: "Output Compare Unit"; "Timer/Counter Timing Diagrams"; TIFR of "Register Description".
use Rattle.std.specs.Prelude.{ℕ, ◌+◌, ◌*◌, ◌≤◌, ◌≡◌, Bool, false, cond, not, ◌&&◌, ◌||◌, List, ◌++◌, length, get_or, take, eqb}
use Rattle.std.proofs.lemmas.List.Edits.{sets}
use Rattle.std.specs.Int.Bits.{bit_or, bit_and}
use Rattle.records.specs.declared.Entry.{Entry}
use Rattle.records.specs.Records.{only, records_of}
use Rattle.wave.specs.Kinds.{F, I}
use Rattle.wave.specs.Count.{top_of, hits, overflows, loads, next_count, next_direction, counted, at_top, at_zero, rising}
use Rattle.tick.specs.declared.happenings.Events.{Events}
use Rattle.tick.specs.declared.tick.Ticked.{Ticked}
use Rattle.tick.specs.declared.tick.Logged.{Logged}
use Rattle.tick.specs.declared.setting.Moving.{Moving}
use Rattle.tick.specs.declared.setting.Setting.{Setting}
use Rattle.tick.specs.Outputs.{bit, outputs, outs_of}

-- what happens in a tick at a given TOP. With TOP I, reaching TOP raises ICF if the timer has that flag
unfoldable pub events_at : Setting → Moving → ℕ → Events
events_at s m top = record {
  a = hits m.counter s.wave.a (get_or m.ocr 0 0);
  b = hits m.counter s.wave.b (get_or m.ocr 1 0);
  c = hits m.counter s.wave.c (get_or m.ocr 2 0);
  top = at_top s.wave m.counter top;
  zero = at_zero s.wave m.counter;
  overflow = overflows s.wave (at_top s.wave m.counter top) (at_zero s.wave m.counter) (eqb m.counter.count s.wave.max);
  capture = eqb s.wave.source I && s.capture && at_top s.wave m.counter top;
  load = loads s.wave (at_top s.wave m.counter top) (at_zero s.wave m.counter);
  bottom = eqb s.wave.kind F && at_top s.wave m.counter top;
  rises = rising m.counter top;
}

-- what happens in the next tick, from the old TOP
abbrev pub events_of : Setting → Moving → Events
events_of s m = events_at s m (top_of s.wave (get_or m.ocr 0 0))

-- the TIFR bits that a tick raises
unfoldable pub raised : Setting → Events → ℕ
raised s e = bit_or (bit_or (bit_or (bit_or (cond e.overflow s.tov 0) (cond e.a s.a.flag 0)) (cond e.b s.b.flag 0)) (cond e.capture s.icf 0)) (cond e.c s.c.flag 0)

-- does a tick raise any flag, already set or not
unfoldable pub raises : Events → Bool
raises e = e.overflow || e.a || e.b || e.capture || e.c

-- a request line is high when its flag and mask bits are both 1 (01, "Registers and capture")
unfoldable pub line : ℕ → ℕ → ℕ
line active mask = bit (not (eqb (bit_and active mask) 0))

-- lines overflow, A, B, capture, C, then three zeros
unfoldable pub lines : Setting → ℕ → ℕ
lines s tifr =
    line (bit_and tifr s.timsk) s.tov * 128
    + line (bit_and tifr s.timsk) s.a.flag * 64
    + line (bit_and tifr s.timsk) s.b.flag * 32
    + line (bit_and tifr s.timsk) s.icf * 16
    + line (bit_and tifr s.timsk) s.c.flag * 8

-- kind 1: TIFR bits raised (8), then the lines (5), three zeros (01, "The record area")
unfoldable pub flag_entry : Setting → ℕ → ℕ → Entry
flag_entry s up tifr = record { kind = 1; body = up * 256 + lines s tifr }

-- kind 2: trigger (4), timer id (8), four zeros
unfoldable pub trigger_entry : ℕ → ℕ → Entry
trigger_entry k id = record { kind = 2; body = k * 4096 + id * 16 }

-- one flag record if any flag is raised, then the triggers 1 to 4
unfoldable pub flag_log_of : Entry → ℕ → Events → List Entry
flag_log_of flag id e =
    only (raises e) flag
    ++ only e.a (trigger_entry 1 id)
    ++ only e.b (trigger_entry 2 id)
    ++ only e.overflow (trigger_entry 3 id)
    ++ only e.capture (trigger_entry 4 id)

-- those of a tick that raises some bits and leaves TIFR so
abbrev pub flag_log : Setting → Events → ℕ → ℕ → List Entry
flag_log s e up tifr = flag_log_of (flag_entry s up tifr) s.id e

-- what a tick leaves, and its records in order
pub record Step : Type 0 where
  pub moving : Moving
  pub log : List Entry

-- a tick in which e happens
unfoldable pub tick_by : Setting → Moving → Events → Step
tick_by s m e = record {
  moving = record {
    counter = record {
      count = next_count s.wave m.counter (top_of s.wave (get_or m.ocr 0 0));
      direction = next_direction s.wave m.counter.direction e.top e.zero;
      blocked = false;
      odometer = counted m.counter.odometer 1;
    };
    ocr = cond e.load s.buffer m.ocr;
    oc = (outputs s e (outs_of m)).oc;
    drives = (outputs s e (outs_of m)).drives;
    tifr = bit_or m.tifr (raised s e);
  };
  log = (outputs s e (outs_of m)).log ++ flag_log s e (raised s e) (bit_or m.tifr (raised s e));
}

-- one tick: matches A, B, C on their outputs, the count, its turns, loads and BOTTOM outputs, and the flags
abbrev pub tick : Setting → Moving → Step
tick s m = tick_by s m (events_of s m)

-- what the code leaves of a tick: what moved, and its records in the area from a place on
pub record Worked (s : Step) (cycle at : ℕ) (before : List ℕ) (r : Ticked) (after : List ℕ) : Type 0 where
  pub moving : r.moving ≡ s.moving
  pub to : r.to ≡ at + length (records_of cycle s.log)
  pub area : after ≡ sets before at (records_of cycle s.log)
  pub most : r.to ≤ at + 110

-- or in a log of their own
pub record Logs (s : Step) (cycle : ℕ) (r : Logged) : Type 0 where
  pub moving : r.moving ≡ s.moving
  pub bytes : take r.log.len r.log.bytes ≡ records_of cycle s.log
  pub size : length (take r.log.len r.log.bytes) ≡ r.log.len
  pub len : r.log.len ≤ 110
