-- A call of what is kept of a timer: its refusal, the time that passes before it, and what it works where it leaves what is kept.
use Prim.Native.Nat.{ℕ}
use native.Mathlib.Omega.{arith}
use mathlib.Core.Path.{◌≡◌, refl, sym, ap, ◌∙◌}
use mathlib.Core.Bool.{Bool, true, false, cond, not, ◌&&◌, ◌||◌, true≢false}
use mathlib.Core.List.{List}
use lib.Dec.{eqb, leb}
use borrow.Author.Tests.{eqb-true, eqb-false}
use Rattle.time.specs.Units.{late_at}
use Rattle.counter.specs.declared.state.Timer.{Timer}
use Rattle.counter.specs.Registers.{is_high, immediate}
use Rattle.answers.specs.Refusals.{late, refusal}
use Rattle.timer.specs.declared.calls.Call.{Call}
use Rattle.timer.specs.declared.calls.Call.TheVariants as call
use Rattle.timer.specs.Calls.{placed, asks, refusal_of}
use Rattle.timer.proofs.Outcomes.{Ready, at_once}
use Rattle.held.specs.declared.state.Held.{Held}
use Rattle.held.specs.Held.{Kept}
use Rattle.held.specs.Quick.{refusing, Passing}
use Rattle.held.proofs.Answers.{due-is, late-low}
use Rattle.held.proofs.Puts.{timer_to}
use Rattle.held.proofs.Stills.{quiet-in, still-asks, stored-kept, stored-ready}
use Rattle.serving.specs.declared.asks.Asks.{Asks}
use Rattle.serving.specs.Asks.{asks_in}
use Rattle.serving.specs.Looking.{refused_by, stilled_in, passed_of, stays_of}

-- ---- refusals
pub refused-is : (h : Held) (c : Call) (cycle : ℕ) → Kept h → refused_by (asks_in (asks h.timer c)) h.timer.clock.latest.0 h.next cycle ≡ refusal_of h.timer c cycle
unfolding refusal_of refusal late refused_by
refused-is h c cycle k = go (eqb (late_at h.timer.clock.latest.0 cycle) 0) refl
  where
    go : (b : Bool) → eqb (late_at h.timer.clock.latest.0 cycle) 0 ≡ b → refused_by (asks_in (asks h.timer c)) h.timer.clock.latest.0 h.next cycle ≡ refusal_of h.timer c cycle
    go true e = let d = due-is h.timer cycle (late-low h.timer.clock.latest.0 cycle (eqb-true _ _ e)) in simp (e, d, k.next)
    go false e = simp e

-- the code's tests are the definition's
module _ (h : Held) (c : Call) (cycle : ℕ) {a : Asks} (e : a ≡ asks_in (asks h.timer c)) where
  pub number_is : {n : ℕ} → n ≡ refused_by a h.timer.clock.latest.0 h.next cycle → n ≡ refused_by (asks_in (asks h.timer c)) h.timer.clock.latest.0 h.next cycle
  number_is q = q ∙ ap (λ (x : Asks). refused_by x h.timer.clock.latest.0 h.next cycle) e

  pub stays-is : {b : Bool} → b ≡ stays_of h.timer a.syncs c → b ≡ stays_of h.timer (asks h.timer c).syncs c
  stays-is q = q ∙ ap (λ (x : Asks). stays_of h.timer x.syncs c) e

-- a call accepted that may not pass the next event comes before it
pub quiet_of : (a : Asks) (latest next cycle : ℕ) → refused_by a latest next cycle ≡ 0 → a.tested ≡ true → refusing true latest next cycle ≡ 0
unfolding refused_by refusing
quiet_of a latest next cycle e y = go (eqb (late_at latest cycle) 0) a.absent a.wrong (leb next cycle) refl refl refl refl e
  where
    go : (b x w n : Bool) → eqb (late_at latest cycle) 0 ≡ b → a.absent ≡ x → a.wrong ≡ w → leb next cycle ≡ n → refused_by a latest next cycle ≡ 0 → refusing true latest next cycle ≡ 0
    go false x w n p q r s e = let z : late_at latest cycle ≡ 0 = rw p at e in absurd (eqb-false _ _ p z)
    go true true w n p q r s e = let z : ◌≡◌ {A = ℕ} 4 0 = rw (p, q) at e in absurd (omega arith)
    go true false true n p q r s e = let z : ◌≡◌ {A = ℕ} 5 0 = rw (p, q, r) at e in absurd (omega arith)
    go true false false true p q r s e = let z : ◌≡◌ {A = ℕ} 6 0 = rw (p, q, r, y, s) at e in absurd (omega arith)
    go true false false false p q r s e = rw (p, s) refl

-- ---- time that passes

-- only a call that may not pass the next event lets time pass
syncs-tested : (t : Timer) (c : Call) → (asks t c).syncs ≡ true → (asks t c).tested ≡ true
unfolding asks
syncs-tested t call.Advance e = absurd (true≢false (sym e))
syncs-tested t call.Next e = refl
syncs-tested t (call.Read address) e = e
syncs-tested t (call.Peek address) e = refl
syncs-tested t (call.Write address value) e = neither (is_high (placed t address)) (eqb (placed t address) 12 && not (immediate t)) e
  where
    neither : (a b : Bool) → not (a || b) ≡ true → not a ≡ true
    neither true b e = e
    neither false b e = refl
syncs-tested t call.Tifr e = refl
syncs-tested t call.Timsk e = refl
syncs-tested t (call.WriteTifr ones) e = refl
syncs-tested t (call.WriteTimsk mask) e = refl
syncs-tested t (call.Edge pin level) e = refl
syncs-tested t (call.Output level) e = refl
syncs-tested t (call.Route level) e = refl
syncs-tested t (call.Sleep mode) e = refl
syncs-tested t call.Wake e = refl
syncs-tested t (call.Reduce mask) e = refl
syncs-tested t (call.Tsm level) e = refl
syncs-tested t (call.Prescale mask) e = refl
syncs-tested t call.Reset e = absurd (true≢false (sym e))

module _ (h : Held) (c : Call) (cycle : ℕ) (k : Kept h) (e : refused_by (asks_in (asks h.timer c)) h.timer.clock.latest.0 h.next cycle ≡ 0) where
  abbrev t : Timer
  t = h.timer

  quiet : (asks t c).syncs ≡ true → refusing true t.clock.latest.0 h.next cycle ≡ 0
  quiet y = quiet_of (asks_in (asks t c)) t.clock.latest.0 h.next cycle e (syncs-tested t c y)

  pub passed-asks : (asks t c).syncs ≡ true → Passing t.counter t.clock h.shift h.down cycle
  passed-asks y = still-asks h cycle (quiet-in h cycle k (quiet y))

  pub passed-ready : (area : List ℕ) → (asks t c).advances ≡ false → Ready t c cycle area (passed_of h (asks t c).syncs cycle)
  unfolding passed_of
  passed-ready area a = go (asks t c).syncs refl
    where
      go : (b : Bool) → (asks t c).syncs ≡ b → Ready t c cycle area (cond b (stilled_in h cycle) t)
      go true y = stored-ready h cycle (quiet-in h cycle k (quiet y)) c area (sym (refused-is h c cycle k) ∙ e) a y
      go false y = at_once t c cycle area k.valid (refused-is h c cycle k) e a y

  pub passed-kept : Kept (timer_to h (passed_of h (asks t c).syncs cycle))
  unfolding passed_of
  passed-kept = go (asks t c).syncs refl
    where
      go : (b : Bool) → (asks t c).syncs ≡ b → Kept (timer_to h (cond b (stilled_in h cycle) t))
      go true y = stored-kept h cycle (quiet-in h cycle k (quiet y))
      go false y = k
