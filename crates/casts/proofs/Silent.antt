-- What reaches all three timers writes no record: no area is touched, accepted or not.
use Prim.Native.Nat.{ℕ}
use native.Mathlib.Omega.{arith}
use mathlib.Core.Path.{◌≡◌, refl, ap, ◌∙◌}
use mathlib.Core.Bool.{Bool, true, false}
use mathlib.Core.List.{List, []}
use lib.Dec.{eqb, leb-zero}
use borrow.Author.Tests.{eqb-true, leb-false}
use Rattle.records.specs.Records.{records_of}
use Rattle.counter.specs.declared.state.Timer.{Timer}
use Rattle.counter.specs.Next.{next_at}
use Rattle.counter.specs.Passage.{Passed, synced, passed, start, sync_of}
use Rattle.counter.specs.Setting.{setting_at}
use Rattle.counter.specs.Valid.{Valid}
use Rattle.passage.specs.Passage.{ticks, quiet}
use Rattle.counter.proofs.Runs.{syncs-quietly}
use Rattle.tick.proofs.Choices.{cond-case, cond-all}
use Rattle.answers.specs.Answers.{Told}
use Rattle.answers.specs.Refusals.{is_due}
use Rattle.timer.specs.declared.calls.Call.{Call}
use Rattle.timer.specs.declared.calls.Call.TheVariants as call
use Rattle.timer.specs.Calls.{asks, works, before, worked, performed, refusal_of, answered}
use Rattle.timer.proofs.Accepted.{call-accepted}
use Rattle.timer.proofs.Keeps.{call-keeps}
use Rattle.aims.specs.declared.Cast.{Cast}
use Rattle.aims.specs.declared.Cast.TheVariants as cast
use Rattle.casts.specs.Casts.{prescaled, reached}

-- no byte is written, and the area is as it was
pub record Silent (was : List ℕ) (x : Told) : Type 0 where
  pub written : x.written ≡ 0
  pub area : x.area ≡ was

-- ---- a call that may not pass the next event, and whose own work logs nothing

-- time passes without a record
synced-silent : (t : Timer) (c : Call) (cycle : ℕ) → Valid t → refusal_of t c cycle ≡ 0 → (asks t c).tested ≡ true → (synced ticks t cycle).bytes ≡ []
unfolding is_due passed quiet start sync_of setting_at
synced-silent t c cycle v e y =
    let a = call-accepted t c cycle e in
    let d : is_due t cycle ≡ false = rw y at a.early in
    ap (λ (x : Passed). x.bytes) (syncs-quietly t cycle v (let s = v.sync in let l = a.latest in omega arith) (λ r. leb-false (next_at t) cycle (rw r at d)))

before-silent : (t : Timer) (syncs : Bool) (cycle : ℕ) → (synced ticks t cycle).bytes ≡ [] → (before ticks t syncs cycle).bytes ≡ []
unfolding before
before-silent t true cycle e = e
before-silent t false cycle e = refl

pub answered-silent : (t : Timer) (c : Call) (cycle : ℕ) (area : List ℕ) → Valid t → (asks t c).advances ≡ false → (asks t c).tested ≡ true
    → ((x : Timer) → (works x c cycle).log ≡ []) → Silent area (answered ticks t c cycle area)
unfolding answered performed worked records_of
answered-silent t c cycle area v a y l =
    cond-case (Silent area) (eqb (refusal_of t c cycle) 0)
    (λ e. let z = before-silent t (asks t c).syncs cycle (synced-silent t c cycle v (eqb-true _ _ e) y) in
    rw a (simp (z, l, leb-zero) (record { written = refl; area = refl })))
    (λ e. record { written = refl; area = refl })

-- ---- so are the five

pub reached-silent : (t : Timer) (s : Cast) (cycle : ℕ) (area : List ℕ) → Valid t → Silent area (reached ticks t s cycle area)
unfolding reached prescaled asks works
reached-silent t (cast.Sleep mode) cycle area v = answered-silent t (call.Sleep mode) cycle area v refl refl (λ x. refl)
reached-silent t cast.Wake cycle area v = answered-silent t call.Wake cycle area v refl refl (λ x. refl)
reached-silent t (cast.Reduce value) cycle area v = answered-silent t (call.Reduce value) cycle area v refl refl (λ x. refl)
reached-silent t (cast.Prescale mask) cycle area v = answered-silent t (call.Prescale mask) cycle area v refl refl (λ x. refl)
reached-silent t (cast.Synchronise level mask) cycle area v =
    let x = answered ticks t (call.Tsm level) cycle area in
    let first = answered-silent t (call.Tsm level) cycle area v refl refl (λ x. refl) in
    let k = call-keeps t (record { call = call.Tsm level; cycle = cycle; area = area }) v in
    let second = answered-silent x.timer (call.Prescale mask) cycle x.area k refl refl (λ x. refl) in
    cond-all (Silent area) (eqb x.number 0)
    (cond-all (Silent area) (eqb (answered ticks x.timer (call.Prescale mask) cycle x.area).number 0)
    (record { written = second.written; area = second.area ∙ first.area })
    (record { written = refl; area = refl }))
    first

-- TSM and the prescaler reset after it
pub tsm-silent : (t : Timer) (level mask cycle : ℕ) (area : List ℕ) → Valid t
    → (answered ticks (answered ticks t (call.Tsm level) cycle area).timer (call.Prescale mask) cycle (answered ticks t (call.Tsm level) cycle area).area).area ≡ area
unfolding asks works
tsm-silent t level mask cycle area v =
    let x = answered ticks t (call.Tsm level) cycle area in
    let k = call-keeps t (record { call = call.Tsm level; cycle = cycle; area = area }) v in
    (answered-silent x.timer (call.Prescale mask) cycle x.area k refl refl (λ x. refl)).area ∙ (answered-silent t (call.Tsm level) cycle area v refl refl (λ x. refl)).area
