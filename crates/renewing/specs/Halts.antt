-- What halts the counter, lets it go on, or starts its prescaler anew: what it changes of a held timer.
use Rattle.std.specs.Prelude.{cond, eqb}
use Rattle.counter.specs.declared.state.Timer.{Timer}
use Rattle.counter.specs.Halts.{asleep_at, awake_at, reduced_to, prescaled_at, tsm_to}
use Rattle.timer.specs.Calls.{reduces}
use Rattle.held.specs.declared.state.Held.{Held}
use Rattle.serving.specs.declared.asked.Asked.{Asked}
use Rattle.renewing.specs.declared.halts.Turned.{Turned}

-- the call's work by its number, where it turns something (timer's `works`)
unfoldable pub turned_of : Timer → Asked → Timer
turned_of s q =
    cond (eqb q.kind 12) (asleep_at s q.cycle)
    (cond (eqb q.kind 13) (awake_at s q.cycle)
    (cond (eqb q.kind 14) (reduced_to s (reduces s q.address))
    (cond (eqb q.kind 15) (tsm_to s (eqb q.value 1) q.cycle) (prescaled_at s q.cycle))))

-- a held timer with what such a call changes; its setting stays
abbrev pub turned_in : Held → Turned → Held
turned_in h r = record {
  timer = record {
    config = h.timer.config;
    counter = r.counter;
    ocr = h.timer.ocr;
    buffer = h.timer.buffer;
    oc = h.timer.oc;
    drives = h.timer.drives;
    registers = h.timer.registers;
    flags = h.timer.flags;
    clock = r.clock;
    halts = r.halts;
  };
  scene = h.scene;
  next = r.next;
  top = h.top;
  flags = r.flags;
  shift = r.shift;
  down = h.down;
}
