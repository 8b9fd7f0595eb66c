-- A held timer with a part put back.
use Prim.Native.Nat.{ℕ}
use mathlib.Core.List.{List}
use Rattle.wave.specs.declared.count.Counter.{Counter}
use Rattle.time.specs.declared.clock.Clock.{Clock}
use Rattle.counter.specs.declared.state.Timer.{Timer}
use Rattle.counter.specs.Halts.{latest_to}
use Rattle.counter.specs.Parts.{flags_to, clock_to, compares_to}
use Rattle.counter.specs.Registers.{temp_to}
use Rattle.scene.specs.declared.state.Scene.{Scene}
use Rattle.held.specs.declared.state.Held.{Held}

abbrev pub timer_to : Held → Timer → Held
timer_to h t = record { timer = t; scene = h.scene; next = h.next; top = h.top; flags = h.flags; shift = h.shift; down = h.down }

abbrev pub counter_to : Timer → Counter → Timer
counter_to t c = record { config = t.config; counter = c; ocr = t.ocr; buffer = t.buffer; oc = t.oc; drives = t.drives; registers = t.registers; flags = t.flags; clock = t.clock; halts = t.halts }

abbrev pub latest_in : Held → ℕ → Held
latest_in h n = timer_to h (latest_to h.timer n)

abbrev pub tifr_in : Held → ℕ → Held
tifr_in h n = timer_to h (flags_to h.timer n h.timer.flags.timsk)

abbrev pub temp_in : Held → ℕ → Held
temp_in h n = timer_to h (temp_to h.timer n)

abbrev pub counter_in : Held → Counter → Held
counter_in h c = timer_to h (counter_to h.timer c)

abbrev pub clock_in : Held → Clock → Held
clock_in h k = timer_to h (clock_to h.timer k)

abbrev pub buffer_in : Held → List ℕ → Held
buffer_in h xs = timer_to h (compares_to h.timer h.timer.ocr xs)

abbrev pub waiting_to : Scene → List ℕ → Scene
waiting_to s xs = record { max = s.max; buffer = xs; kind = s.kind; fast = s.fast; ends = s.ends; follows = s.follows; pinned = s.pinned; pa = s.pa; pb = s.pb; pc = s.pc; fa = s.fa; fb = s.fb; fc = s.fc; tov = s.tov; icf = s.icf; capt = s.capt; timsk = s.timsk; id = s.id; a = s.a; b = s.b; c = s.c }

abbrev pub waiting_in : Held → List ℕ → Held
waiting_in h xs = record { timer = h.timer; scene = waiting_to h.scene xs; next = h.next; top = h.top; flags = h.flags; shift = h.shift; down = h.down }
