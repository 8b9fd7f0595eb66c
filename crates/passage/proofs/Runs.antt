-- Tick by tick and by events: one run.
use Prim.Native.Nat.{ℕ, zero, suc, ◌+◌, ◌-◌, ◌≤◌, ◌<◌, ◌^◌}
use native.Mathlib.Omega.{arith}
use native.Mathlib.Nat.{add-zero, zero-add, suc-add, le_refl}
use native.Mathlib.Numerals.{add-one}
use mathlib.Core.Path.{◌≡◌, refl, sym, ap, ◌∙◌}
use mathlib.Core.Bool.{Bool, true, false}
use mathlib.Core.List.{List, ◌++◌, append-nil}
use lib.ListN.{length}
use lib.Dec.{leb}
use borrow.Author.Tests.{leb-true, leb-false}
use Rattle.records.specs.Records.{records_of}
use Rattle.time.specs.declared.units.Prescaler.{Prescaler}
use Rattle.time.specs.Units.{cycle_at}
use Rattle.tick.specs.declared.setting.Setting.{Setting}
use Rattle.tick.specs.Tick.{tick}
use Rattle.passage.specs.Passage.{Run, one, ticks, quiet, gap_in, skips}
use Rattle.passage.specs.Law.{Kept, QuietTicks, EventsAreTicks}
use Rattle.tick.proofs.Choices.{cond-case, cond-all}
use Rattle.tick.proofs.Still.{tick-still, still-at, linear-suc, linear-none, step_keeps, tick-keeps}

-- the bytes after a run's next tick
abbrev pub bytes_after : Setting → Prescaler → Run → List ℕ
bytes_after s p r = r.bytes ++ records_of (cycle_at p (r.at + 1)) (tick s r.moving).log

module _ (s : Setting) (p : Prescaler) (fits : ℕ → Bool) where
  -- ticks add up, and a stopped run stays
  pub ticks-add : (m n : ℕ) (r : Run) → ticks s p fits (m + n) r ≡ ticks s p fits n (ticks s p fits m r)
  unfolding ticks
  ticks-add zero n r = rw zero-add
  ticks-add (suc m) n r = rw suc-add (ticks-add m n (one s p fits r))

  one-paused : (r : Run) → r.paused ≡ true → one s p fits r ≡ r
  unfolding one
  one-paused r e = simp e

  pub ticks-paused : (n : ℕ) (r : Run) → r.paused ≡ true → ticks s p fits n r ≡ r
  unfolding ticks
  ticks-paused zero r e = refl
  ticks-paused (suc n) r e = rw (one-paused r e) (ticks-paused n r e)

  -- after its next tick a run is as it was, or stopped, or has the tick, which fits
  pub one-all : (Q : Run → Type 0) (r : Run)
      → Q r
      → Q (record { moving = r.moving; at = r.at; bytes = r.bytes; paused = true })
      → (fits (length (bytes_after s p r)) ≡ true → Q (record { moving = (tick s r.moving).moving; at = r.at + 1; bytes = bytes_after s p r; paused = false }))
      → Q (one s p fits r)
  unfolding one
  one-all Q r same stopped ticked = cond-all Q r.paused same (cond-case Q (fits (length (bytes_after s p r))) ticked (λ e. stopped))

  -- a tick and a linear step keep what a run keeps
  pub one-keeps : (r : Run) → Kept s fits r → Kept s fits (one s p fits r)
  one-keeps r g = one-all (Kept s fits) r g (record { sound = g.sound; fit = g.fit }) (λ e. record { sound = tick-keeps s r.moving g.sound; fit = e })

  quiet_keeps : (n : ℕ) (r : Run) → Kept s fits r → n ≤ gap_in s r → Kept s fits (quiet s n r)
  unfolding quiet
  quiet_keeps n r g h = record { sound = step_keeps s n r.moving g.sound h; fit = g.fit }

  -- one quiet tick more
  one-quiet : (n : ℕ) (r : Run) → Kept s fits r → r.paused ≡ false → n < gap_in s r → one s p fits (quiet s n r) ≡ quiet s (suc n) r
  unfolding one quiet records_of
  one-quiet n r g e h =
      let k : r.at + n + 1 ≡ r.at + suc n = omega arith in
      simp (e, tick-still s _ (still-at s.wave r.moving g.sound.steady n h), linear-suc, append-nil, g.fit, k)

pub quiet_none : (s : Setting) (r : Run) → r.moving.counter.odometer < 2 ^ 64 → quiet s 0 r ≡ r
unfolding quiet
quiet_none s r h = simp (add-zero, linear-none s.wave r.moving h)

pub quiet-ticks : QuietTicks
unfolding ticks
quiet-ticks s p fits zero r g e h = sym (quiet_none s r g.sound.steady.odometer)
quiet-ticks s p fits (suc n) r g e h =
    (rw add-one at (ticks-add s p fits n 1 r)) ∙ ap (one s p fits) (quiet-ticks s p fits n r g e (omega arith)) ∙ one-quiet s p fits n r g e h

-- by events is tick by tick, where there may be as many events as ticks
skips-ticks : (s : Setting) (p : Prescaler) (fits : ℕ → Bool) (most n : ℕ) (r : Run) → n ≤ most → Kept s fits r → skips most s p fits n r ≡ ticks s p fits n r
unfolding skips ticks
skips-ticks s p fits zero n r h g = let e : n ≡ 0 = omega arith in rw e
skips-ticks s p fits (suc most) n r h g =
    cond-case Same r.paused (λ e. sym (ticks-paused s p fits n r e))
    (λ e. cond-case Same (leb n near) (λ l. sym (quiet-ticks s p fits n r g e (leb-true n near l)))
    (λ l. far e (leb-false n near l) (skips-ticks s p fits most rest next)))
  where
    Same : Run → Type 0
    Same q = q ≡ ticks s p fits n r

    near : ℕ
    near = gap_in s r

    rest : ℕ
    rest = n - suc near

    next : Run
    next = one s p fits (quiet s near r)

    far : r.paused ≡ false → near < n → (rest ≤ most → Kept s fits next → skips most s p fits rest next ≡ ticks s p fits rest next) → Same (skips most s p fits rest next)
    far e l ih =
        let q : near + suc rest ≡ n = omega arith in
        ih (omega arith) (one-keeps s p fits _ (quiet_keeps s p fits near r g (le_refl near)))
        ∙ ap (ticks s p fits (suc rest)) (sym (quiet-ticks s p fits near r g e (le_refl near)))
        ∙ (rw q at (sym (ticks-add s p fits near (suc rest) r)))

pub events-are-ticks : EventsAreTicks
events-are-ticks s p fits n r = skips-ticks s p fits n n r (le_refl n)
