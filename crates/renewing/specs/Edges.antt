-- Edges that do something: what a capture and a tick of the T pin change of a held timer.
use Rattle.std.specs.Prelude.{Bool, ◌||◌, eqb}
use Rattle.counter.specs.declared.state.Timer.{Timer}
use Rattle.timer.specs.Calls.{edge_captures}
use Rattle.held.specs.declared.state.Held.{Held}
use Rattle.serving.specs.declared.asked.Asked.{Asked}
use Rattle.renewing.specs.declared.edges.Caught.{Caught}
use Rattle.renewing.specs.declared.edges.Ticked.{Ticked}

-- the comparator's output (10) is left only where it captures; an edge (9) captures or ticks
unfoldable pub catches_of : Timer → Asked → Bool
catches_of t q = eqb q.kind 10 || edge_captures t q.pin q.value

-- a held timer after a capture: ICRn is not TOP then, and what is kept stands
abbrev pub caught_in : Held → Caught → Held
caught_in h r = record {
  timer = record {
    config = h.timer.config;
    counter = r.counter;
    ocr = h.timer.ocr;
    buffer = h.timer.buffer;
    oc = h.timer.oc;
    drives = h.timer.drives;
    registers = record { tccra = h.timer.registers.tccra; tccrb = h.timer.registers.tccrb; icr = r.icr; temp = h.timer.registers.temp };
    flags = record { tifr = r.tifr; timsk = h.timer.flags.timsk };
    clock = r.clock;
    halts = h.timer.halts;
  };
  scene = h.scene;
  next = h.next;
  top = h.top;
  flags = h.flags;
  shift = h.shift;
  down = h.down;
}

-- a held timer after a tick of the T pin: no event is to come, before and after
abbrev pub ticked_in : Held → Ticked → Held
ticked_in h r = record { timer = r.timer; scene = h.scene; next = h.next; top = r.top; flags = h.flags; shift = h.shift; down = r.down }
