-- A run up to its next event, and past it.
use Prim.Native.Nat.{ℕ, zero, suc, ◌+◌, ◌-◌, ◌≤◌, ◌<◌}
use native.Mathlib.Omega.{arith}
use native.Mathlib.Nat.{le_refl}
use mathlib.Core.Path.{◌≡◌, refl, sym, ap, ◌∙◌}
use mathlib.Core.Bool.{Bool, true, false, cond, true≢false}
use mathlib.Core.List.{List, [], ◌++◌, append-nil, append_assoc}
use lib.Dec.{leb}
use lib.ListN.{length}
use borrow.Author.Tests.{leb-true, leb-false}
use Rattle.records.specs.Records.{records_of}
use Rattle.time.specs.declared.units.Prescaler.{Prescaler}
use Rattle.time.specs.Units.{cycle_at}
use Rattle.tick.specs.declared.setting.Setting.{Setting}
use Rattle.tick.specs.Skip.{linear}
use Rattle.tick.specs.Tick.{tick}
use Rattle.tick.proofs.Choices.{cond-case}
use Rattle.passage.specs.Passage.{Run, one, ticks, quiet, gap_in}
use Rattle.passage.specs.Law.{Kept}
use Rattle.passage.proofs.Runs.{bytes_after, ticks-add, ticks-paused, one-all, quiet-ticks}

-- bytes that more were added to
pub record Grown (a b : List ℕ) : Type 0 where
  pub rest : List ℕ
  pub is : b ≡ a ++ rest

module _ (s : Setting) (p : Prescaler) (fits : ℕ → Bool) where
  one_on : (r : Run) → r.at ≤ (one s p fits r).at
  one_on r = one-all s p fits (λ (q : Run). r.at ≤ q.at) r (omega arith) (omega arith) (λ e. omega arith)

  pub ticks-on : (n : ℕ) (r : Run) → r.at ≤ (ticks s p fits n r).at
  unfolding ticks
  ticks-on zero r = omega arith
  ticks-on (suc n) r = let a = one_on r in let b = ticks-on n (one s p fits r) in omega arith

  one_grows : (r : Run) → Grown r.bytes (one s p fits r).bytes
  one_grows r =
      one-all s p fits (λ (q : Run). Grown r.bytes q.bytes) r (record { rest = []; is = sym (append-nil r.bytes) })
      (record { rest = []; is = sym (append-nil r.bytes) }) (λ e. record { rest = records_of (cycle_at p (r.at + 1)) (tick s r.moving).log; is = refl })

  ticks-grow : (n : ℕ) (r : Run) → Grown r.bytes (ticks s p fits n r).bytes
  unfolding ticks
  ticks-grow zero r = record { rest = []; is = sym (append-nil r.bytes) }
  ticks-grow (suc n) r =
      let a = one_grows r in
      let b = ticks-grow n (one s p fits r) in
      record { rest = a.rest ++ b.rest; is = b.is ∙ ap (λ (z : List ℕ). z ++ b.rest) a.is ∙ append_assoc r.bytes a.rest b.rest }

  one-open : (r : Run) → r.paused ≡ false → one s p fits r
      ≡ cond (fits (length (bytes_after s p r))) (record { moving = (tick s r.moving).moving; at = r.at + 1; bytes = bytes_after s p r; paused = false })
      (record { moving = r.moving; at = r.at; bytes = r.bytes; paused = true })
  unfolding one
  one-open r e = simp e

  module _ (r : Run) (g : Kept s fits r) (e : r.paused ≡ false) where
    -- it stops before its event's tick
    abbrev stopped : Run
    stopped = record { moving = (quiet s (gap_in s r) r).moving; at = (quiet s (gap_in s r) r).at; bytes = (quiet s (gap_in s r) r).bytes; paused = true }

    -- it works that tick
    abbrev worked : Run
    worked = record { moving = (tick s (quiet s (gap_in s r) r).moving).moving; at = (quiet s (gap_in s r) r).at + 1; bytes = bytes_after s p (quiet s (gap_in s r) r); paused = false }

    past : (k : ℕ) → gap_in s r < k → ticks s p fits k r ≡ ticks s p fits (k - suc (gap_in s r)) (one s p fits (quiet s (gap_in s r) r))
    unfolding ticks
    past k l =
        let q : gap_in s r + suc (k - suc (gap_in s r)) ≡ k = omega arith in
        (rw q at (ticks-add s p fits (gap_in s r) (suc (k - suc (gap_in s r))) r)) ∙ ap (ticks s p fits (suc (k - suc (gap_in s r)))) (quiet-ticks s p fits (gap_in s r) r g e (le_refl (gap_in s r)))

    quiet-open : (quiet s (gap_in s r) r).paused ≡ false
    unfolding quiet
    quiet-open = e

    -- k ticks are quiet, or stop before the event's, or go past it
    run-all : (Q : Run → Type 0) (k : ℕ) → (k ≤ gap_in s r → Q (quiet s k r)) → Q stopped → ((n : ℕ) → Q (ticks s p fits n worked)) → Q (ticks s p fits k r)
    run-all Q k short halts goes = go (leb k (gap_in s r)) refl
      where
        rest : ℕ
        rest = k - suc (gap_in s r)

        go : (b : Bool) → leb k (gap_in s r) ≡ b → Q (ticks s p fits k r)
        go true l = rw (quiet-ticks s p fits k r g e (leb-true k (gap_in s r) l)) (short (leb-true k (gap_in s r) l))
        go false l =
            rw (past k (leb-false k (gap_in s r) l), one-open (quiet s (gap_in s r) r) quiet-open)
            (cond-case (λ (z : Run). Q (ticks s p fits rest z)) (fits (length (bytes_after s p (quiet s (gap_in s r) r)))) (λ f. goes rest)
            (λ f. rw (ticks-paused s p fits rest stopped refl) halts))

    -- before the event's tick every tick was quiet
    pub below-event : (k : ℕ) → (ticks s p fits k r).at ≤ r.at + gap_in s r → (ticks s p fits k r).moving ≡ linear s.wave ((ticks s p fits k r).at - r.at) r.moving
    unfolding quiet
    below-event k =
        run-all (λ (q : Run). q.at ≤ r.at + gap_in s r → q.moving ≡ linear s.wave (q.at - r.at) r.moving) k
        (λ l h. ap (λ (z : ℕ). linear s.wave z r.moving) (omega arith)) (λ h. ap (λ (z : ℕ). linear s.wave z r.moving) (omega arith))
        (λ n h. let o = ticks-on n worked in absurd (omega arith))

    -- once it is worked, its records are the first
    pub event-worked : (k : ℕ) → r.at + (gap_in s r + 1) ≤ (ticks s p fits k r).at
        → Grown (r.bytes ++ records_of (cycle_at p (r.at + (gap_in s r + 1))) (tick s (linear s.wave (gap_in s r) r.moving)).log) (ticks s p fits k r).bytes
    unfolding quiet
    event-worked k =
        run-all (λ (q : Run). r.at + (gap_in s r + 1) ≤ q.at → Grown (r.bytes ++ records_of (cycle_at p (r.at + (gap_in s r + 1))) (tick s (linear s.wave (gap_in s r) r.moving)).log) q.bytes) k
        (λ l h. absurd (omega arith)) (λ h. absurd (omega arith))
        (λ n h. let z : r.at + (gap_in s r + 1) ≡ r.at + gap_in s r + 1 = omega arith in rw z (ticks-grow n worked))

    -- and a run that does not stop works it
    pub passes-event : (k : ℕ) → gap_in s r < k → (ticks s p fits k r).paused ≡ false → r.at + (gap_in s r + 1) ≤ (ticks s p fits k r).at
    unfolding quiet
    passes-event k l =
        run-all (λ (q : Run). q.paused ≡ false → r.at + (gap_in s r + 1) ≤ q.at) k (λ n h. absurd (omega arith)) (λ h. absurd (true≢false h))
        (λ n h. let o = ticks-on n worked in omega arith)
