-- Calls that are not turned away, and the timer that a call leaves.
use Prim.Native.Nat.{ℕ, zero, suc, ◌-◌, ◌≤◌, ◌<◌, ◌^◌}
use native.Mathlib.Omega.{arith}
use mathlib.Core.Path.{◌≡◌, refl}
use mathlib.Core.Bool.{Bool, true, false, cond, not, ◌&&◌, false≢true}
use mathlib.Core.List.{List, ◌++◌}
use lib.Dec.{eqb, leb, ltb, eqb-suc-zero}
use lib.ListN.{length}
use borrow.Author.Tests.{ltb-false, eqb-true, eqb-false}
use Rattle.records.specs.Records.{records_of}
use Rattle.counter.specs.declared.state.Timer.{Timer}
use Rattle.counter.specs.Halts.{latest_to}
use Rattle.passage.specs.Passage.{ticks}
use Rattle.counter.specs.Passage.{Passed, advanced}
use Rattle.tick.proofs.Choices.{cond-case, cond-all}
use Rattle.timer.specs.declared.calls.Call.{Call}
use Rattle.timer.specs.declared.calls.Call.TheVariants as call
use Rattle.answers.specs.Answers.{Told, given}
use Rattle.answers.specs.Refusals.{is_due, late, refusal}
use Rattle.timer.specs.Calls.{asks, works, says, before, worked, moved, performed, refusal_of, answered}
use Rattle.timer.specs.Claims.{Request, told}

-- the call comes on time, with a right level or mode, passes no event that it may not, and comes not to a counter halted asleep that cannot take it
pub record Accepted (t : Timer) (c : Call) (cycle : ℕ) : Type 0 where
  pub latest : t.clock.latest.0 ≤ cycle
  pub most : cycle < 2 ^ 62
  pub right : (asks t c).wrong ≡ false
  pub early : (asks t c).tested && is_due t cycle ≡ false
  pub awake : (asks t c).halted ≡ false

-- a test that gives a number was not met
unmet : (b : Bool) (n k : ℕ) → cond b (suc n) k ≡ 0 → (b ≡ false) × (k ≡ 0)
unmet true n k e = absurd (omega arith)
unmet false n k e = (refl, e)

unmet-first : (n k : ℕ) → cond (not (eqb n 0)) n k ≡ 0 → (n ≡ 0) × (k ≡ 0)
unmet-first zero k e = (refl, e)
unmet-first (suc n) k e = let z : suc n ≡ 0 = rw eqb-suc-zero at e in absurd (omega arith)

pub call-accepted : (t : Timer) (c : Call) (cycle : ℕ) → refusal_of t c cycle ≡ 0 → Accepted t c cycle
unfolding refusal_of refusal late
call-accepted t c cycle e =
    let first = unmet-first (late t cycle) _ e in
    let two = unmet (ltb (2 ^ 62 - 1) cycle) 1 _ first.0 in
    let three = unmet (ltb cycle t.clock.latest.0) 2 _ two.1 in
    let four = unmet (asks t c).absent 3 _ first.1 in
    let five = unmet (asks t c).wrong 4 _ four.1 in
    let six = unmet ((asks t c).tested && is_due t cycle) 5 _ five.1 in
    let seven = unmet (asks t c).halted 6 _ six.1 in
    record { latest = ltb-false _ _ three.0; most = omega (arith, ltb-false (2 ^ 62 - 1) cycle two.0); right = five.0; early = six.0; awake = seven.0 }

-- a call leaves the timer as it was, or advanced, or, its time passed, after the call's own work
record Leaves (Q : Timer → Type 0) (x : Told) : Type 0 where
  timer : Q x.timer

worked-leaves : (Q : Timer → Type 0) (x : Passed) (t : Timer) (c : Call) (cycle : ℕ) (area : List ℕ) → Q t → Q (latest_to (works x.timer c cycle).timer cycle) → Leaves Q (worked x t c cycle area)
unfolding worked
worked-leaves Q x t c cycle area was work = cond-all (Leaves Q) (leb _ (length area)) (record { timer = work }) (record { timer = was })

pub told-all : (Q : Timer → Type 0) (t : Timer) (q : Request) → Q t
    → (Accepted t q.call q.cycle → Q (advanced ticks t q.cycle (length q.area)).timer)
    → (Accepted t q.call q.cycle → Q (latest_to (works (before ticks t (asks t q.call).syncs q.cycle).timer q.call q.cycle).timer q.cycle))
    → Q (told ticks t q).timer
unfolding answered performed moved
told-all Q t q was advance work =
    (cond-case (Leaves Q) (eqb (refusal_of t q.call q.cycle) 0)
    (λ e. let a = call-accepted t q.call q.cycle (eqb-true _ _ e) in
    cond-all (Leaves Q) (asks t q.call).advances (record { timer = advance a }) (worked-leaves Q _ t q.call q.cycle q.area was (work a)))
    (λ e. record { timer = was })).timer

-- the advance is the one call that advances
is-advance : (t : Timer) (c : Call) → (asks t c).advances ≡ true → c ≡ call.Advance
unfolding asks
is-advance t call.Advance e = refl
is-advance t call.Next e = absurd (false≢true e)
is-advance t (call.Read address) e = absurd (false≢true e)
is-advance t (call.Peek address) e = absurd (false≢true e)
is-advance t (call.Write address value) e = absurd (false≢true e)
is-advance t call.Tifr e = absurd (false≢true e)
is-advance t call.Timsk e = absurd (false≢true e)
is-advance t (call.WriteTifr ones) e = absurd (false≢true e)
is-advance t (call.WriteTimsk mask) e = absurd (false≢true e)
is-advance t (call.Edge pin level) e = absurd (false≢true e)
is-advance t (call.Output level) e = absurd (false≢true e)
is-advance t (call.Route level) e = absurd (false≢true e)
is-advance t (call.Sleep mode) e = absurd (false≢true e)
is-advance t call.Wake e = absurd (false≢true e)
is-advance t (call.Reduce mask) e = absurd (false≢true e)
is-advance t (call.Tsm level) e = absurd (false≢true e)
is-advance t (call.Prescale mask) e = absurd (false≢true e)
is-advance t call.Reset e = absurd (false≢true e)

-- a call that is not turned away is the advance, or time that passes and then the call's own work
pub told-taken : (Q : Told → Type 0) (t : Timer) (q : Request)
    → (Accepted t q.call q.cycle → q.call ≡ call.Advance → Q (moved (advanced ticks t q.cycle (length q.area)) q.area))
    → (Accepted t q.call q.cycle → let x = before ticks t (asks t q.call).syncs q.cycle in let n = works x.timer q.call q.cycle in
    Q (given (latest_to n.timer q.cycle) (says x.timer q.call) (x.bytes ++ records_of q.cycle n.log) q.area))
    → (told ticks t q).number ≡ 0 → Q (told ticks t q)
unfolding answered performed worked
told-taken Q t q advance work =
    cond-case Yes (eqb (refusal_of t q.call q.cycle) 0)
    (λ e. let a = call-accepted t q.call q.cycle (eqb-true _ _ e) in
    cond-case Yes (asks t q.call).advances (λ k z. advance a (is-advance t q.call k)) (λ k. cond-all Yes (leb _ (length q.area)) (λ z. work a) (λ z. absurd (omega arith))))
    (λ e z. absurd (eqb-false _ _ e z))
  where
    Yes : Told → Type 0
    Yes x = x.number ≡ 0 → Q x
