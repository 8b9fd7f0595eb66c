-- Tick by tick and from time-out to time-out: one run.
use Prim.Native.Nat.{ℕ, zero, suc, ◌+◌, ◌-◌, ◌≤◌, ◌<◌}
use native.Mathlib.Omega.{arith}
use native.Mathlib.Nat.{add-zero, zero-add, suc-add, le_refl}
use native.Mathlib.Numerals.{add-one}
use mathlib.Core.Path.{◌≡◌, refl, sym, ap, ◌∙◌}
use mathlib.Core.Bool.{Bool, true, false}
use mathlib.Core.List.{List, ◌++◌, append-nil}
use lib.ListN.{length}
use Rattle.records.specs.Records.{records_of}
use Rattle.time.specs.Units.{cycle_at}
use Rattle.wdtcsr.specs.Timeouts.{tick, gap_of, is_quiet}
use Rattle.wdtcsr.proofs.Ticks.{cond-case, loud-gap, quiet-less, quiet-to-gap, tick-quiet, linear-none}
use Rattle.oscillator.specs.Oscillator.{oscillator, Run, one, ticks, quiet, skips, timeouts}

-- the bytes after a run's next tick
abbrev pub bytes_after : Run → List ℕ
bytes_after r = r.bytes ++ records_of (cycle_at oscillator (r.at + 1)) (tick r.moving).log

module _ (fits : ℕ → Bool) where
  -- ticks add up, and a stopped run stays
  pub ticks-add : (m n : ℕ) (r : Run) → ticks fits (m + n) r ≡ ticks fits n (ticks fits m r)
  unfolding ticks
  ticks-add zero n r = rw zero-add
  ticks-add (suc m) n r = rw suc-add (ticks-add m n (one fits r))

  one-paused : (r : Run) → r.paused ≡ true → one fits r ≡ r
  unfolding one
  one-paused r e = simp e

  pub ticks-paused : (n : ℕ) (r : Run) → r.paused ≡ true → ticks fits n r ≡ r
  unfolding ticks
  ticks-paused zero r e = refl
  ticks-paused (suc n) r e = rw (one-paused r e) (ticks-paused n r e)

  -- after its next tick a run is as it was, or stopped, or has the tick, which fits
  pub one-all : (Q : Run → Type 0) (r : Run)
      → Q r
      → Q (record { moving = r.moving; at = r.at; bytes = r.bytes; paused = true })
      → (fits (length (bytes_after r)) ≡ true → Q (record { moving = (tick r.moving).moving; at = r.at + 1; bytes = bytes_after r; paused = false }))
      → Q (one fits r)
  unfolding one
  one-all Q r same stopped ticked = cond-case Q r.paused (λ e. same) (λ e. cond-case Q (fits (length (bytes_after r))) ticked (λ e. stopped))

  -- the bytes of a run fit so far
  pub one-fits : (r : Run) → fits (length r.bytes) ≡ true → fits (length (one fits r).bytes) ≡ true
  one-fits r f = one-all (λ (q : Run). fits (length q.bytes) ≡ true) r f f (λ e. e)

  -- one quiet tick more
  one-quiet : (n : ℕ) (r : Run) → fits (length r.bytes) ≡ true → r.paused ≡ false → is_quiet (suc n) r.moving ≡ true → one fits (quiet n r) ≡ quiet (suc n) r
  unfolding one quiet records_of
  one-quiet n r f e h =
      let k : r.at + n + 1 ≡ r.at + suc n = omega arith in
      simp (e, tick-quiet n r.moving h, append-nil, f, k)

  quiet_none : (r : Run) → quiet 0 r ≡ r
  unfolding quiet
  quiet_none r = simp (add-zero, linear-none)

  -- n quiet ticks are one step
  pub quiet-ticks : (n : ℕ) (r : Run) → fits (length r.bytes) ≡ true → r.paused ≡ false → is_quiet n r.moving ≡ true → ticks fits n r ≡ quiet n r
  unfolding ticks
  quiet-ticks zero r f e h = sym (quiet_none r)
  quiet-ticks (suc n) r f e h =
      (rw add-one at (ticks-add n 1 r)) ∙ ap (one fits) (quiet-ticks n r f e (quiet-less n (suc n) r.moving (omega arith) h)) ∙ one-quiet n r f e h

  -- by time-outs is tick by tick, where there may be as many time-outs as ticks
  skips-ticks : (most n : ℕ) (r : Run) → n ≤ most → fits (length r.bytes) ≡ true → skips most fits n r ≡ ticks fits n r
  unfolding skips ticks quiet
  skips-ticks zero n r h f = let e : n ≡ 0 = omega arith in rw e
  skips-ticks (suc most) n r h f =
      cond-case Same r.paused (λ e. sym (ticks-paused n r e))
      (λ e. cond-case Same (is_quiet n r.moving) (λ l. sym (quiet-ticks n r f e l))
      (λ l. far e (loud-gap n r.moving l) (skips-ticks most rest next)))
    where
      Same : Run → Type 0
      Same q = q ≡ ticks fits n r

      near : ℕ
      near = gap_of r.moving

      rest : ℕ
      rest = n - suc near

      next : Run
      next = one fits (quiet near r)

      far : r.paused ≡ false → near < n → (rest ≤ most → fits (length next.bytes) ≡ true → skips most fits rest next ≡ ticks fits rest next) → Same (skips most fits rest next)
      far e l ih =
          let q : near + suc rest ≡ n = omega arith in
          ih (omega arith) (one-fits (quiet near r) f)
          ∙ ap (ticks fits (suc rest)) (sym (quiet-ticks near r f e (quiet-to-gap r.moving)))
          ∙ (rw q at (sym (ticks-add near (suc rest) r)))

  pub timeouts-are-ticks : (n : ℕ) (r : Run) → fits (length r.bytes) ≡ true → timeouts fits n r ≡ ticks fits n r
  timeouts-are-ticks n r f = skips-ticks n n r (le_refl n) f
