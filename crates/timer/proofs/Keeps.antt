-- Every call leaves a valid timer valid.
use Prim.Native.Nat.{ℕ}
use native.Mathlib.Omega.{arith}
use mathlib.Core.Path.{◌≡◌}
use mathlib.Core.Bool.{Bool, true, false, ◌&&◌, and-true}
use mathlib.Core.List.{List, [], ◌∷◌}
use Rattle.counter.specs.declared.state.Timer.{Timer}
use Rattle.counter.specs.Halts.{halting}
use Rattle.counter.specs.Logs.{Noted}
use Rattle.passage.specs.Passage.{ticks}
use Rattle.counter.specs.Valid.{Valid}
use Rattle.tick.proofs.Choices.{cond-case, cond-all}
use Rattle.counter.proofs.Lasting.{advance-keeps}
use Rattle.counter.proofs.Keeps.{Lasts, flags-keep, read_keeps, written_keeps, captured-keeps, struck-keeps, sync-keeps, reduced-keeps, routed-keeps, asleep-keeps, awake-keeps, prescaled-keeps, tsm-keeps, reset-keeps}
use Rattle.timer.specs.declared.calls.Call.{Call}
use Rattle.timer.specs.declared.calls.Call.TheVariants as call
use Rattle.timer.specs.Calls.{edge_captures, edge_ticks, output_captures, changes, prescales, asks, works}
use Rattle.timer.specs.Claims.{Request, told, last, CallKeeps}
use Rattle.timer.proofs.Accepted.{told-all}
use Rattle.timer.proofs.Timely.{Timely, timely}

-- ---- the call's own work
-- a counter halted asleep turns a new origin away
is-awake : (t x : Timer) (anew : Bool) (cycle : ℕ) → Timely t x anew cycle → t.halts.asleep && anew ≡ false → anew ≡ true → x.halts.asleep ≡ false
is-awake t x anew cycle g h e = rw g.halts (simp (e, and-true) at h)

Keeping : ℕ → Noted → Type 0
Keeping cycle n = Lasts cycle n.timer

pub works-keep : (t x : Timer) (c : Call) (cycle : ℕ) → Timely t x (asks t c).syncs cycle → (asks t c).halted ≡ false → Lasts cycle (works x c cycle).timer
unfolding Keeping asks works
works-keep t x call.Advance cycle g h = g.lasts
works-keep t x call.Next cycle g h = g.lasts
works-keep t x (call.Read address) cycle g h = read_keeps cycle x g.lasts _
works-keep t x (call.Peek address) cycle g h = g.lasts
works-keep t x (call.Write address value) cycle g h = written_keeps cycle x g.lasts _ _ (omega arith)
works-keep t x call.Tifr cycle g h = g.lasts
works-keep t x call.Timsk cycle g h = g.lasts
works-keep t x (call.WriteTifr ones) cycle g h = flags-keep cycle x g.lasts _ _
works-keep t x (call.WriteTimsk mask) cycle g h = flags-keep cycle x g.lasts _ _
works-keep t x (call.Edge pin level) cycle g h =
    cond-all (Keeping cycle) (edge_captures x pin level) (captured-keeps cycle x g.lasts)
    (cond-all (Keeping cycle) (edge_ticks x pin level) (struck-keeps cycle _ (sync-keeps cycle x g.lasts)) g.lasts)
works-keep t x (call.Output level) cycle g h = cond-all (Keeping cycle) (output_captures x level) (captured-keeps cycle x g.lasts) g.lasts
works-keep t x (call.Route level) cycle g h = cond-all (Lasts cycle) x.config.icr.present (routed-keeps cycle x g.lasts _) g.lasts
works-keep t x (call.Sleep mode) cycle g h = cond-all (Lasts cycle) (halting x mode) (asleep-keeps cycle x g.lasts) g.lasts
works-keep t x call.Wake cycle g h = cond-case (Lasts cycle) x.halts.asleep (awake-keeps cycle x g.lasts) (λ e. g.lasts)
works-keep t x (call.Reduce mask) cycle g h = reduced-keeps cycle x g.lasts _
works-keep t x (call.Tsm level) cycle g h = cond-case (Lasts cycle) (changes x level) (λ e. let z = rw g.halts at e in tsm-keeps cycle x g.lasts _ (g.synced z) (is-awake t x _ cycle g h z)) (λ e. g.lasts)
works-keep t x (call.Prescale mask) cycle g h = cond-case (Lasts cycle) (prescales x mask) (λ e. let z = rw g.config at e in prescaled-keeps cycle x g.lasts (g.synced z) (is-awake t x _ cycle g h z)) (λ e. g.lasts)
works-keep t x call.Reset cycle g h = reset-keeps cycle x g.lasts

-- ---- the claims

pub call-keeps : CallKeeps
unfolding Lasts
call-keeps t q v =
    told-all Valid t q v (λ a. advance-keeps t _ _ v a.latest a.most)
    (λ a. works-keep t _ q.call q.cycle (timely t (asks t q.call).syncs q.cycle v a.latest a.most) a.awake)

-- so every timer that the calls give is valid
pub last-valid : (t : Timer) (qs : List Request) → Valid t → Valid (last ticks t qs)
unfolding last
last-valid t [] v = v
last-valid t (q ∷ qs) v = last-valid (told ticks t q).timer qs (call-keeps t q v)
