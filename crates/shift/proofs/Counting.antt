-- In a normal mode the count goes round, a step a tick.
use Prim.Native.Nat.{ℕ, zero, suc, ◌+◌, ◌-◌, ◌*◌, ◌%◌, ◌≤◌, ◌<◌, max}
use native.Mathlib.Omega.{arith}
use native.Mathlib.Nat.{suc-mod, mod-lt, mod-eq_of_lt, mod_self, mul-div_cancel}
use native.Mathlib.Numerals.{add-one}
use mathlib.Core.Path.{◌≡◌, refl, sym, ap, ◌∙◌}
use mathlib.Core.Bool.{Bool, true, false, cond, true≢false}
use lib.Dec.{eqb, leb}
use borrow.Author.Tests.{eqb-true, eqb-false, leb-true, leb-false}
use Rattle.time.specs.declared.units.Prescaler.{Prescaler}
use Rattle.time.specs.Units.{ticks_at, cycle_at}
use Rattle.time.proofs.Clocks.{ticks-mono}
use Rattle.wave.specs.Count.{falls, next_count}
use Rattle.tick.specs.declared.setting.Moving.{Moving}
use Rattle.tick.specs.declared.setting.Setting.{Setting}
use Rattle.tick.specs.Tick.{tick, tick_by}
use Rattle.tick.proofs.Choices.{cond-case, cond-all}
use Rattle.passage.specs.Passage.{Run, one, ticks}
use Rattle.passage.proofs.Runs.{one-all, ticks-paused}

-- one step round
round : (n m : ℕ) → cond (eqb (n % suc m) m) 0 (n % suc m + 1) ≡ (n + 1) % suc m
round n m = go (eqb (n % suc m) m) refl
  where
    go : (b : Bool) → eqb (n % suc m) m ≡ b → cond b 0 (n % suc m + 1) ≡ (n + 1) % suc m
    go true e = let q = eqb-true (n % suc m) m e in rw (add-one n, suc-mod n (suc m), q) (sym (mod_self (suc m)))
    go false e =
        let q = eqb-false (n % suc m) m e in
        let l = mod-lt n {m = suc m} (omega arith) in
        let s : suc (n % suc m) < suc m = omega arith in
        rw (add-one n, suc-mod n (suc m), mod-eq_of_lt s) (add-one (n % suc m))

-- a run's count, from its tick's number
abbrev pub Counts : Setting → ℕ → Run → Type 0
Counts s base r = r.moving.counter.count ≡ (base + r.at) % suc s.wave.max

module _ (s : Setting) (p : Prescaler) (fits : ℕ → Bool) where
  module _ (base : ℕ) (n : s.wave.kind ≡ 0) where
    tick-count : (m : Moving) → (tick s m).moving.counter.count ≡ cond (eqb m.counter.count s.wave.max) 0 (m.counter.count + 1)
    unfolding tick_by next_count falls
    tick-count m = simp n

    one-counts : (r : Run) → Counts s base r → Counts s base (one s p fits r)
    one-counts r h =
        let k : base + (r.at + 1) ≡ base + r.at + 1 = omega arith in
        one-all s p fits (Counts s base) r h h (λ e. tick-count r.moving ∙ rw (h, k) (round (base + r.at) s.wave.max))

    pub ticks-count : (k : ℕ) (r : Run) → Counts s base r → Counts s base (ticks s p fits k r)
    unfolding ticks
    ticks-count zero r h = h
    ticks-count (suc k) r h = ticks-count k (one s p fits r) (one-counts r h)

  -- a run that has not stopped has made all its ticks
  one-made : (r : Run) → (one s p fits r).paused ≡ false → (one s p fits r).at ≡ r.at + 1
  unfolding one
  one-made r =
      cond-case (λ (q : Run). q.paused ≡ false → q.at ≡ r.at + 1) r.paused
      (λ e f. absurd (true≢false (sym e ∙ f)))
      (λ e. cond-all (λ (q : Run). q.paused ≡ false → q.at ≡ r.at + 1) (fits _) (λ f. refl) (λ f. absurd (true≢false f)))

  pub ticks-made : (n : ℕ) (r : Run) → (ticks s p fits n r).paused ≡ false → (ticks s p fits n r).at ≡ r.at + n
  unfolding ticks
  ticks-made zero r e = omega arith
  ticks-made (suc n) r e = made-on (one s p fits r).paused refl (ticks-made n (one s p fits r) e)
    where
      made-on : (b : Bool) → (one s p fits r).paused ≡ b → (ticks s p fits n (one s p fits r)).at ≡ (one s p fits r).at + n → (ticks s p fits n (one s p fits r)).at ≡ r.at + suc n
      made-on true f h = absurd (true≢false (sym f ∙ (sym (ap (λ (q : Run). q.paused) (ticks-paused s p fits n (one s p fits r) f)) ∙ e)))
      made-on false f h = let k = one-made r f in omega arith

  -- and none falls behind
  one_from : (a : ℕ) (r : Run) → a ≤ r.at → a ≤ (one s p fits r).at
  one_from a r h = one-all s p fits (λ (q : Run). a ≤ q.at) r h h (λ e. omega arith)

  pub ticks-from : (a n : ℕ) (r : Run) → a ≤ r.at → a ≤ (ticks s p fits n r).at
  unfolding ticks
  ticks-from a zero r h = h
  ticks-from a (suc n) r h = ticks-from a n (one s p fits r) (one_from a r h)

-- a tick's own cycle has its number
tick-of : (p : Prescaler) (k : ℕ) → 0 < p.divisor → ticks_at p (cycle_at p k) ≡ k
unfolding ticks_at cycle_at
tick-of p k d = let e : p.origin.0 + k * p.divisor - p.origin.0 ≡ k * p.divisor = omega arith in rw e (mul-div_cancel k d)

-- where a run stopped at a tick, the later of that and the old sync cycle has its number
stopped-at : (p : Prescaler) (sync k : ℕ) → 0 < p.divisor → p.origin.0 ≤ sync → ticks_at p sync ≤ k → ticks_at p (max sync (cycle_at p k)) ≡ k
stopped-at p sync k d o h = go (leb (cycle_at p k) sync) refl
  where
    go : (b : Bool) → leb (cycle_at p k) sync ≡ b → ticks_at p (max sync (cycle_at p k)) ≡ k
    go true e =
        let l = leb-true (cycle_at p k) sync e in
        let m : max sync (cycle_at p k) ≡ sync = omega arith in
        let a = ticks-mono p (cycle_at p k) sync d l in
        let b = tick-of p k d in
        rw m (omega arith)
    go false e =
        let l = leb-false (cycle_at p k) sync e in
        let m : max sync (cycle_at p k) ≡ cycle_at p k = omega arith in
        rw m (tick-of p k d)

-- where a run ends, its sync cycle has the number of its last tick
pub sync_at : (p : Prescaler) (sync cycle k : ℕ) (paused : Bool) → 0 < p.divisor → p.origin.0 ≤ sync → sync ≤ cycle → ticks_at p sync ≤ k
    → (paused ≡ false → k ≡ ticks_at p sync + (ticks_at p cycle - ticks_at p sync)) → ticks_at p (cond paused (max sync (cycle_at p k)) cycle) ≡ k
sync_at p sync cycle k true d o s h w = stopped-at p sync k d o h
sync_at p sync cycle k false d o s h w = let m = ticks-mono p sync cycle d s in let e = w refl in omega arith
