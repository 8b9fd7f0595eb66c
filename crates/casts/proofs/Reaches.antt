-- TSM and then the prescaler reset, of one timer, over plain values.
use Prim.Native.Nat.{ℕ}
use mathlib.Core.Path.{◌≡◌, refl, sym, ◌∙◌}
use mathlib.Core.List.{List}
use borrow.Author.Tests.{eq-eqb, ne_eqb}
use Rattle.counter.specs.declared.state.Timer.{Timer}
use Rattle.counter.specs.Valid.{Valid}
use Rattle.passage.specs.Passage.{ticks}
use Rattle.answers.specs.declared.Answer.TheVariants as answer
use Rattle.answers.specs.declared.Outcome.{Outcome}
use Rattle.answers.specs.Answers.{Told, Tells, number_of}
use Rattle.timer.specs.declared.calls.Call.TheVariants as call
use Rattle.timer.specs.Calls.{answered}
use Rattle.casts.specs.Casts.{prescaled}
use Rattle.casts.proofs.Silent.{tsm-silent}

-- the number of the code's answer is the definition's
pub none-refused : {x : Told} {r : Outcome} {after : List ℕ} {n : ℕ} → Tells x r after → n ≡ number_of r.answer → n ≡ 0 → x.number ≡ 0
none-refused h e z = sym h.number ∙ sym e ∙ z

pub is-refused : {x : Told} {r : Outcome} {after : List ℕ} {n : ℕ} → Tells x r after → n ≡ number_of r.answer → (n ≡ 0 → ⊥) → x.number ≡ 0 → ⊥
is-refused h e k z = k (e ∙ h.number ∙ z)

module _ (t : Timer) (level mask cycle : ℕ) (area : List ℕ) {x : Outcome} {mid : List ℕ} {n : ℕ}
    (h : Tells (answered ticks t (call.Tsm level) cycle area) x mid) (e : n ≡ number_of x.answer) where
  -- TSM is refused
  pub tsm-refused : (n ≡ 0 → ⊥) → Tells (prescaled ticks t mask cycle area (answered ticks t (call.Tsm level) cycle area)) x mid
  unfolding prescaled
  tsm-refused k = rw (ne_eqb (answered ticks t (call.Tsm level) cycle area).number 0 (is-refused h e k)) h

  module _ (z : n ≡ 0) {y : Outcome} {after : List ℕ} {m : ℕ} (g : Tells (answered ticks x.timer (call.Prescale mask) cycle mid) y after) (f : m ≡ number_of y.answer) where
    -- the reset, of the timer and the area that TSM left
    then_is : Tells (answered ticks (answered ticks t (call.Tsm level) cycle area).timer (call.Prescale mask) cycle (answered ticks t (call.Tsm level) cycle area).area) y after
    then_is = rw (h.timer, h.area) at g

    -- both are taken
    pub both-taken : m ≡ 0 → Tells (prescaled ticks t mask cycle area (answered ticks t (call.Tsm level) cycle area)) y after
    unfolding prescaled
    both-taken w =
        let q = then_is in
        rw (eq-eqb (answered ticks t (call.Tsm level) cycle area).number 0 (none-refused h e z), eq-eqb _ 0 (none-refused q f w)) q

    -- the reset is refused: all is as it was
    pub reset-refused : {r : Outcome} → Valid t → (m ≡ 0 → ⊥) → r ≡ record { answer = answer.Refused m; timer = t; written = 0 }
        → Tells (prescaled ticks t mask cycle area (answered ticks t (call.Tsm level) cycle area)) r after
    unfolding prescaled
    reset-refused v w u =
        let q = then_is in
        rw (u, eq-eqb (answered ticks t (call.Tsm level) cycle area).number 0 (none-refused h e z), ne_eqb _ 0 (is-refused q f w))
        (record { timer = refl; number = f ∙ q.number; values = refl; written = refl; area = q.area ∙ tsm-silent t level mask cycle area v; valid = v })
