-- Calls that leave what is kept of a timer as it is: they change a few parts of it.
use Rattle.std.specs.Prelude.{ℕ, ◌-◌, Bool, true, false, cond, not, ◌&&◌, List, ◌≡◌, eqb, leb}
use Rattle.std.specs.Int.Bits.{bit_and}
use Rattle.time.specs.Halts.{route_to}
use Rattle.time.specs.Units.{late_at}
use Rattle.scene.specs.declared.state.Scene.{Scene}
use Rattle.counter.specs.declared.state.Timer.{Timer}
use Rattle.counter.specs.Registers.{peeked, read_value, read_timer}
use Rattle.timer.specs.Calls.{placed, edge_ticks, asks}
use Rattle.timer.specs.declared.calls.Call.{Call}
use Rattle.timer.specs.declared.calls.Call.TheVariants as call
use Rattle.held.specs.declared.state.Held.{Held}
use Rattle.held.specs.Held.{never}
use Rattle.held.specs.Quick.{stilled}
use Rattle.held.specs.Reply.{Serves, Served}
use Rattle.serving.specs.declared.asked.Wanted.{Wanted}
use Rattle.serving.specs.declared.asked.Wanted.TheVariants as wanted
use Rattle.serving.specs.declared.asks.Asks.{Asks}
use Rattle.serving.specs.declared.looking.Looked.{Looked}
use Rattle.serving.specs.declared.looking.Work.{Work}
use Rattle.serving.specs.Asked.{answered_to}
use Rattle.serving.specs.Asks.{asks_in}

-- ---- before the work

-- the number of the refusal, 0 for none, by the next event that is kept (01, "Calls turned away")
unfoldable pub refused_by : Asks → ℕ → ℕ → ℕ → ℕ
refused_by a latest next cycle =
    cond (not (eqb (late_at latest cycle) 0)) (late_at latest cycle)
    (cond a.absent 4 (cond a.wrong 5 (cond (a.tested && leb next cycle) 6 (cond a.halted 7 0))))

-- the timer whose time has passed below the next event
abbrev pub stilled_in : Held → ℕ → Timer
stilled_in h cycle =
    let s = stilled h.timer.counter h.timer.clock h.shift h.down cycle in
    let t = h.timer in
    record { config = t.config; counter = s.counter; ocr = t.ocr; buffer = t.buffer; oc = t.oc; drives = t.drives; registers = t.registers; flags = t.flags; clock = s.clock; halts = t.halts }

-- where the call lets it pass
unfoldable pub passed_of : Held → Bool → ℕ → Timer
passed_of h syncs cycle = cond syncs (stilled_in h cycle) h.timer

-- an accepted call leaves what is kept where it reads, or turns nothing
unfoldable pub stays_of : Timer → Bool → Call → Bool
stays_of t syncs call.Advance = false
stays_of t syncs call.Next = true
stays_of t syncs (call.Read address) = true
stays_of t syncs (call.Peek address) = true
stays_of t syncs (call.Write address value) = false
stays_of t syncs call.Tifr = true
stays_of t syncs call.Timsk = true
stays_of t syncs (call.WriteTifr ones) = true
stays_of t syncs (call.WriteTimsk mask) = true
stays_of t syncs (call.Edge pin level) = not syncs && not (edge_ticks t pin level)
stays_of t syncs (call.Output level) = not syncs
stays_of t syncs (call.Route level) = true
stays_of t syncs (call.Sleep mode) = not syncs
stays_of t syncs call.Wake = not t.halts.asleep
stays_of t syncs (call.Reduce mask) = not syncs
stays_of t syncs (call.Tsm level) = not syncs
stays_of t syncs (call.Prescale mask) = not syncs
stays_of t syncs call.Reset = false

-- ---- the work

-- a call that yields, and changes nothing
abbrev pub yielding : Timer → ℕ → ℕ → Work
yielding t what value = record { what = what; value = value; temp = t.registers.temp; flags = t.flags; routed = t.halts.routed }

-- a register read, which may fill TEMP
abbrev pub reading_of : Timer → ℕ → Work
reading_of t place = record { what = 1; value = read_value t place; temp = (read_timer t place).registers.temp; flags = t.flags; routed = t.halts.routed }

-- other flags, and another route
abbrev pub flagged_of : Timer → ℕ → ℕ → Work
flagged_of t tifr timsk = record { what = 0; value = 0; temp = t.registers.temp; flags = record { tifr = tifr; timsk = timsk }; routed = t.halts.routed }

abbrev pub routing_of : Timer → Bool → Work
routing_of t on = record { what = 0; value = 0; temp = t.registers.temp; flags = t.flags; routed = on }

-- what each such call yields and changes, of the timer whose time has passed (timer's `works` and `says`)
unfoldable pub work_of : Timer → Call → ℕ → Work
work_of t call.Advance next = yielding t 0 0
work_of t call.Next next = cond (eqb next never) (yielding t 3 0) (yielding t 2 next)
work_of t (call.Read address) next = reading_of t (placed t address)
work_of t (call.Peek address) next = yielding t 1 (peeked t (placed t address))
work_of t (call.Write address value) next = yielding t 0 0
work_of t call.Tifr next = yielding t 1 t.flags.tifr
work_of t call.Timsk next = yielding t 1 t.flags.timsk
work_of t (call.WriteTifr ones) next = flagged_of t (bit_and t.flags.tifr (255 - ones)) t.flags.timsk
work_of t (call.WriteTimsk mask) next = flagged_of t t.flags.tifr mask
work_of t (call.Edge pin level) next = yielding t 0 0
work_of t (call.Output level) next = yielding t 0 0
work_of t (call.Route level) next = routing_of t (cond t.config.icr.present (eqb level 1) t.halts.routed)
work_of t (call.Sleep mode) next = yielding t 0 0
work_of t call.Wake next = yielding t 0 0
work_of t (call.Reduce mask) next = yielding t 0 0
work_of t (call.Tsm level) next = yielding t 0 0
work_of t (call.Prescale mask) next = yielding t 0 0
work_of t call.Reset next = yielding t 0 0

-- ---- after it

-- a scene with another TIMSK
abbrev pub timsk_to : Scene → ℕ → Scene
timsk_to s n =
    record { max = s.max; buffer = s.buffer; kind = s.kind; fast = s.fast; ends = s.ends; follows = s.follows; pinned = s.pinned; pa = s.pa; pb = s.pb; pc = s.pc; fa = s.fa; fb = s.fb; fc = s.fc; tov = s.tov; icf = s.icf; capt = s.capt; timsk = n; id = s.id; a = s.a; b = s.b; c = s.c }

-- a held timer with the parts that such a call may change
abbrev pub looked_in : Held → Looked → Held
looked_in h r = record {
  timer = record {
    config = h.timer.config;
    counter = r.counter;
    ocr = h.timer.ocr;
    buffer = h.timer.buffer;
    oc = h.timer.oc;
    drives = h.timer.drives;
    registers = record { tccra = h.timer.registers.tccra; tccrb = h.timer.registers.tccrb; icr = h.timer.registers.icr; temp = r.temp };
    flags = r.flags;
    clock = r.clock;
    halts = route_to h.timer.halts r.routed;
  };
  scene = timsk_to h.scene r.flags.timsk;
  next = h.next;
  top = h.top;
  flags = h.flags;
  shift = h.shift;
  down = h.down;
}

-- a call that is accepted, and changes what is kept
pub record Left (h : Held) (c : Call) (cycle : ℕ) : Type 0 where
  pub accepted : refused_by (asks_in (asks h.timer c)) h.timer.clock.latest.0 h.next cycle ≡ 0
  pub turns : stays_of h.timer (asks h.timer c).syncs c ≡ false

-- the same, of a call by its number
abbrev pub LeftFor : Held → Wanted → ℕ → Type 0
LeftFor h (wanted.Known c) cycle = Left h c cycle
LeftFor h wanted.Unknown cycle = ⊥

-- a call that is done is served; one that is not has changed nothing, and is left to others
pub record Looks (h : Held) (c : Call) (cycle : ℕ) (r : Looked) : Type 0 where
  pub done : r.done ≡ true → Served h.timer c cycle (looked_in h r) r.reply
  pub same : r.done ≡ false → looked_in h r ≡ h
  pub left : r.done ≡ false → Left h c cycle

-- the same, of a call by its number
pub record LooksFor (h : Held) (w : Wanted) (cycle : ℕ) (r : Looked) : Type 0 where
  pub done : r.done ≡ true → (area : List ℕ) → Serves (answered_to h.timer w cycle area) (looked_in h r) r.reply area
  pub same : r.done ≡ false → looked_in h r ≡ h
  pub left : r.done ≡ false → LeftFor h w cycle
