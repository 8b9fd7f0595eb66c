-- An advance over events of a rising count, from what is kept.
use Rattle.std.specs.Prelude.{ℕ, ◌-◌, ◌/◌, ◌^◌, Bool, false, not, ◌&&◌, eqb, leb}
use Rattle.wave.specs.Kinds.{P}
use Rattle.time.specs.Clock.{clock_at}
use Rattle.strike.specs.declared.Rise.{Rise}
use Rattle.climbing.specs.declared.Risen.{Risen}
use Rattle.held.specs.declared.state.Held.{Held}
use Rattle.held.specs.Quick.{refusing}

-- the cycle is accepted, no match is blocked, the count rises, and any tick's records fit
unfoldable pub strikes_of : ℕ → Bool → ℕ → ℕ → ℕ → ℕ → Bool
strikes_of kind blocked latest next cycle room = ((eqb (refusing false latest next cycle) 0 && not blocked) && not (leb P kind)) && leb 110 room

-- where the run begins: the sync cycle, and the quiet ticks from there to the next event's
abbrev pub start_of : Held → Rise
start_of h = record {
  next = h.next;
  to = 0;
  count = h.timer.counter.count;
  gap = (h.next - 1 - h.timer.clock.sync.0) / 2 ^ h.shift;
  top = h.top;
  ocr = h.timer.ocr;
  oc = h.timer.oc;
  drives = h.timer.drives;
  tifr = h.timer.flags.tifr;
  flags = h.flags;
}

-- a held timer with what such an advance changes; mode, divisor and the way of the count stay
abbrev pub risen_in : Held → Risen → Held
risen_in h r = record {
  timer = record {
    config = h.timer.config;
    counter = record { count = r.count; direction = h.timer.counter.direction; blocked = h.timer.counter.blocked; odometer = r.odometer };
    ocr = r.ocr;
    buffer = h.timer.buffer;
    oc = r.oc;
    drives = r.drives;
    registers = h.timer.registers;
    flags = record { tifr = r.tifr; timsk = h.timer.flags.timsk };
    clock = clock_at r.sync h.timer.clock.origin.0 r.latest;
    halts = h.timer.halts;
  };
  scene = h.scene;
  next = r.next;
  top = r.top;
  flags = r.flags;
  shift = h.shift;
  down = h.down;
}
