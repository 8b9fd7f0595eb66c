-- A timer with one of its parts put back.
use Rattle.std.specs.Prelude.{ℕ, List}
use Rattle.time.specs.declared.clock.Clock.{Clock}
use Rattle.tick.specs.Outputs.{Outs}
use Rattle.time.specs.declared.halts.Halts.{Halts}
use Rattle.counter.specs.declared.state.Registers.{Registers}
use Rattle.counter.specs.declared.state.Timer.{Timer}

-- the timer with other registers
abbrev pub registers_to : Timer → Registers → Timer
registers_to t r = record { config = t.config; counter = t.counter; ocr = t.ocr; buffer = t.buffer; oc = t.oc; drives = t.drives; registers = r; flags = t.flags; clock = t.clock; halts = t.halts }

-- the timer with other active and buffered compares
abbrev pub compares_to : Timer → List ℕ → List ℕ → Timer
compares_to t ocr buffer = record { config = t.config; counter = t.counter; ocr = ocr; buffer = buffer; oc = t.oc; drives = t.drives; registers = t.registers; flags = t.flags; clock = t.clock; halts = t.halts }

-- the timer with other levels and drives
abbrev pub outs_to : Timer → Outs → Timer
outs_to t o = record { config = t.config; counter = t.counter; ocr = t.ocr; buffer = t.buffer; oc = o.oc; drives = o.drives; registers = t.registers; flags = t.flags; clock = t.clock; halts = t.halts }

-- the timer with other flags
abbrev pub flags_to : Timer → ℕ → ℕ → Timer
flags_to t tifr timsk = record { config = t.config; counter = t.counter; ocr = t.ocr; buffer = t.buffer; oc = t.oc; drives = t.drives; registers = t.registers; flags = record { tifr = tifr; timsk = timsk }; clock = t.clock; halts = t.halts }

-- the timer with another clock
abbrev pub clock_to : Timer → Clock → Timer
clock_to t k = record { config = t.config; counter = t.counter; ocr = t.ocr; buffer = t.buffer; oc = t.oc; drives = t.drives; registers = t.registers; flags = t.flags; clock = k; halts = t.halts }

-- the timer with other halts
abbrev pub halts_to : Timer → Halts → Timer
halts_to t h = record { config = t.config; counter = t.counter; ocr = t.ocr; buffer = t.buffer; oc = t.oc; drives = t.drives; registers = t.registers; flags = t.flags; clock = t.clock; halts = h }
