-- An advance of a held timer whose scene stands: what it changes.
use Rattle.held.specs.declared.state.Held.{Held}
use Rattle.renewing.specs.declared.onward.Went.{Went}

abbrev pub went_in : Held → Went → Held
went_in h r = record {
  timer = record {
    config = h.timer.config;
    counter = r.moving.counter;
    ocr = r.moving.ocr;
    buffer = h.timer.buffer;
    oc = r.moving.oc;
    drives = r.moving.drives;
    registers = h.timer.registers;
    flags = record { tifr = r.moving.tifr; timsk = h.timer.flags.timsk };
    clock = r.clock;
    halts = h.timer.halts;
  };
  scene = h.scene;
  next = r.next;
  top = r.top;
  flags = r.flags;
  shift = r.shift;
  down = r.down;
}
