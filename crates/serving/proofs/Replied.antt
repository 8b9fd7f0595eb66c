-- A call by its number serves as the call that it names.
use Prim.Native.Nat.{ℕ}
use mathlib.Core.List.{List}
use mathlib.Core.Path.{◌≡◌}
use Rattle.counter.specs.declared.state.Timer.{Timer}
use Rattle.passage.specs.Passage.{ticks}
use Rattle.serving.specs.declared.asked.Asked.{Asked}
use Rattle.serving.specs.declared.asked.Wanted.TheVariants as wanted
use Rattle.held.specs.declared.state.Held.{Held}
use Rattle.held.specs.declared.reply.Reply.{Reply}
use Rattle.held.specs.Reply.{Serves}
use Rattle.serving.specs.Asked.{call_of, answered_to}
use Rattle.timer.specs.Calls.{answered}
use Rattle.timer.specs.declared.calls.Call.{Call}

pub known-serves : (t : Timer) (q : Asked) (c : Call) (ys : List ℕ) {zs : List ℕ} {h : Held} {r : Reply} → call_of q ≡ wanted.Known c → Serves (answered ticks t c q.cycle ys) h r zs → Serves (answered_to t (call_of q) q.cycle ys) h r zs
known-serves t q c ys e k = rw e k
