-- A reply's numbers say the values of the call: the flags of an answer are those of the next event of the timer that the call leaves.
use Prim.Native.Nat.{ℕ}
use mathlib.Core.Bool.{Bool, true, false, cond}
use mathlib.Core.List.{List, ◌++◌}
use mathlib.Core.Path.{◌≡◌, refl}
use lib.Dec.{eqb, leb}
use lib.ListN.{length}
use Rattle.records.specs.Records.{records_of}
use Rattle.tick.proofs.Choices.{cond-all}
use Rattle.tick.specs.Distance.{flags_ahead}
use Rattle.passage.specs.Passage.{ticks}
use Rattle.counter.specs.declared.next.Next.TheVariants as next
use Rattle.counter.specs.declared.state.Timer.{Timer}
use Rattle.counter.specs.Halts.{latest_to}
use Rattle.counter.specs.Modes.{mode_of, wave_of, divisor_of, held_of, running_of}
use Rattle.counter.specs.Next.{next_at, next_of, next_flags}
use Rattle.counter.specs.Passage.{Passed, advanced}
use Rattle.counter.specs.Setting.{setting_at, setting_of, moving_of}
use Rattle.answers.specs.Answers.{Values, event, reached, paused, Told, given, turned, fitted}
use Rattle.timer.specs.declared.calls.Call.{Call}
use Rattle.timer.specs.declared.calls.Call.TheVariants as call
use Rattle.timer.specs.Calls.{asks, refusal_of, before, answered, performed, worked, moved, works, says}
use Rattle.held.specs.Held.{flags_in}
use Rattle.held.specs.Reply.{what_of, value_of, beside}
use Rattle.held.proofs.Stills.{flags-next}
use Rattle.shell.specs.Histories.{values_in}

-- its numbers say its values
abbrev Back : Timer → Values → Type 0
Back t v = values_in (what_of v) (beside v (flags_in (next_of t))) (value_of v) ≡ v

record Backs (x : Told) : Type 0 where
  back : Back x.timer x.values

next-back : (t : Timer) (cycle : ℕ) → Back (latest_to t cycle) (event (next_of t))
unfolding values_in flags_in next_of next_at running_of divisor_of held_of mode_of wave_of setting_at
next-back t cycle = go (running_of t)
  where
    go : (b : Bool) → let n = cond b (next.At (record { 0 = next_at t }) (flags_ahead (setting_of t) (moving_of t))) next.Never in values_in (what_of (event n)) (flags_in n) (value_of (event n)) ≡ event n
    go true = refl
    go false = refl

says_back : (t : Timer) (c : Call) (cycle : ℕ) → Back (latest_to (works t c cycle).timer cycle) (says t c)
unfolding works says values_in
says_back t call.Advance cycle = refl
says_back t call.Next cycle = next-back t cycle
says_back t (call.Read a) cycle = refl
says_back t (call.Peek a) cycle = refl
says_back t (call.Write a v) cycle = refl
says_back t call.Tifr cycle = refl
says_back t call.Timsk cycle = refl
says_back t (call.WriteTifr o) cycle = refl
says_back t (call.WriteTimsk m) cycle = refl
says_back t (call.Edge p l) cycle = refl
says_back t (call.Output l) cycle = refl
says_back t (call.Route l) cycle = refl
says_back t (call.Sleep m) cycle = refl
says_back t call.Wake cycle = refl
says_back t (call.Reduce m) cycle = refl
says_back t (call.Tsm l) cycle = refl
says_back t (call.Prescale m) cycle = refl
says_back t call.Reset cycle = refl

advance-back : (x : Passed) (area : List ℕ) → Backs (moved x area)
unfolding moved values_in
advance-back x area = record { back = go x.paused }
  where
    go : (b : Bool) → Back x.timer (cond b (paused x.timer.clock.sync.0 (next_flags x.timer)) (reached (next_flags x.timer)))
    go true = rw (flags-next x.timer) refl
    go false = rw (flags-next x.timer) refl

turned-back : (n : ℕ) (t : Timer) (area : List ℕ) → Backs (turned n t area)
unfolding values_in
turned-back n t area = record { back = refl }

fitted-back : (was t : Timer) (v : Values) (bytes area : List ℕ) → Back t v → Backs (fitted was t v bytes area)
fitted-back was t v bytes area k = cond-all Backs (leb (length bytes) (length area)) {x = given t v bytes area} {y = turned 8 was area} (record { back = k }) (turned-back 8 was area)

worked-back : (x : Passed) (was : Timer) (c : Call) (cycle : ℕ) (area : List ℕ) → Backs (worked x was c cycle area)
unfolding worked
worked-back x was c cycle area = fitted-back was (latest_to (works x.timer c cycle).timer cycle) (says x.timer c) (x.bytes ++ records_of cycle (works x.timer c cycle).log) area (says_back x.timer c cycle)

performed-back : (t : Timer) (c : Call) (cycle : ℕ) (area : List ℕ) → Backs (performed ticks t c cycle area)
unfolding performed
performed-back t c cycle area =
    cond-all Backs (asks t c).advances {x = moved (advanced ticks t cycle (length area)) area} {y = worked (before ticks t (asks t c).syncs cycle) t c cycle area}
    (advance-back _ area) (worked-back _ t c cycle area)

answered-back : (t : Timer) (c : Call) (cycle : ℕ) (area : List ℕ) → Backs (answered ticks t c cycle area)
unfolding answered
answered-back t c cycle area =
    cond-all Backs (eqb (refusal_of t c cycle) 0) {x = performed ticks t c cycle area} {y = turned (refusal_of t c cycle) t area} (performed-back t c cycle area) (turned-back (refusal_of t c cycle) t area)

pub values-back : (t : Timer) (c : Call) (cycle : ℕ) (area : List ℕ) → let x = answered ticks t c cycle area in values_in (what_of x.values) (beside x.values (flags_in (next_of x.timer))) (value_of x.values) ≡ x.values
values-back t c cycle area = (answered-back t c cycle area).back
