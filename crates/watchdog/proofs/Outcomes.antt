-- Calls turned away and calls accepted, over plain values.
use Prim.Native.Nat.{ℕ}
use native.Mathlib.Omega.{arith}
use mathlib.Core.Path.{◌≡◌, refl}
use mathlib.Core.Bool.{Bool, true, false, cond}
use mathlib.Core.List.{List}
use borrow.Author.Tests.{ne_eqb}
use Rattle.std.specs.Prelude.{Result, Ok, Err, Some, None}
use Rattle.std.specs.Option.{option_map_or}
use Rattle.time.specs.declared.units.Cycle.{Cycle}
use Rattle.oscillator.specs.declared.passing.Advanced.{Advanced}
use Rattle.oscillator.specs.declared.state.Watchdog.{Watchdog}
use Rattle.oscillator.specs.State.{Valid}
use Rattle.oscillator.specs.Oscillator.{ticks, Advances}
use Rattle.watchdog.specs.declared.calls.Call.{Call}
use Rattle.watchdog.specs.declared.calls.Call.TheVariants as call
use Rattle.watchdog.specs.declared.outcome.Answer.TheVariants as answer
use Rattle.watchdog.specs.declared.outcome.Outcome.{Outcome}
use Rattle.watchdog.specs.declared.outcome.Refusal.{Refusal}
use Rattle.watchdog.specs.declared.outcome.Refusal.TheVariants as refusal
use Rattle.watchdog.specs.Outcome.{none, paused, number_of, values_of, heard, Tells}
use Rattle.watchdog.specs.Calls.{late, refusal_of, moved, performed, answered}
use Rattle.watchdog.proofs.Keeps.{call-keeps}

-- no refusal has the number 0
numbered : (why : Refusal) → number_of why ≡ 0 → ⊥
numbered refusal.TooLarge e = omega arith
numbered refusal.TooEarly e = omega arith
numbered refusal.Due e = omega arith
numbered refusal.TooLong e = omega arith

module _ (w : Watchdog) (c : Call) (cycle : ℕ) (area : List ℕ) (v : Valid w) where
  -- what is told is the definition's, and so valid
  told_is : {r : Result Outcome Refusal} {after : List ℕ} → heard w r after ≡ answered ticks w c cycle area → Tells (answered ticks w c cycle area) w r after
  told_is e = record { told = e; valid = rw e (call-keeps w (record { call = c; cycle = cycle; area = area }) v) }

  pub turned_away : {why : Refusal} → number_of why ≡ refusal_of w c cycle → Tells (answered ticks w c cycle area) w (Err why) area
  unfolding answered
  turned_away {why} e = told_is (simp (← e, ne_eqb (number_of why) 0 (numbered why)))

  pub accepted : {r : Outcome} {after : List ℕ} → refusal_of w c cycle ≡ 0 → heard w (Ok r) after ≡ performed ticks w c cycle area → Tells (answered ticks w c cycle area) w (Ok r) after
  unfolding answered
  accepted z e = told_is (simp (z, e))

-- ---- advance
-- the values of where an advance stopped, if it did
paused-values : (b : Bool) (sync : Cycle) → values_of (option_map_or (λ (c : Cycle). answer.Paused c) (cond b (Some sync) None) answer.Done) ≡ cond b (paused sync.0) none
paused-values true sync = refl
paused-values false sync = refl

pub came : (w : Watchdog) (cycle : ℕ) (area : List ℕ) → Valid w → {a : Advanced} {o : Outcome} {after : List ℕ} → late w cycle ≡ 0 → Advances w cycle area a after
    → o ≡ record { answer = option_map_or (λ (c : Cycle). answer.Paused c) a.paused answer.Done; watchdog = a.watchdog; written = a.written }
    → Tells (answered ticks w call.Advance cycle area) w (Ok o) after
unfolding refusal_of performed moved
came w cycle area v {a} {o} {after} z g e =
    accepted w call.Advance cycle area v z (rw (e, g.paused, g.written, g.area) (simp (paused-values, g.watchdog)))
