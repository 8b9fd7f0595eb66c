-- Below the gap a tick only steps the count, adds one to the odometer and lifts the block; ticks and linear steps keep what is sound.
use Prim.Native.Nat.{ℕ, suc, ◌+◌, ◌-◌, ◌%◌, ◌≤◌, ◌<◌, ◌^◌}
use native.Mathlib.Omega.{arith}
use native.Mathlib.Nat.{add-zero, sub-zero}
use mathlib.Core.Path.{◌≡◌, refl}
use mathlib.Core.Bool.{Bool, true, false, cond, ◌&&◌, and-true, and-false}
use mathlib.Core.List.{List, []}
use mathlib.Core.Logic.{inl, inr}
use lib.ListN.{get_or}
use lib.Dec.{eqb, leb, eqb-suc-zero}
use lib.IntN.{ℤ}
use lib.Bits.{or_zero_r}
use borrow.Author.Tests.{leb-true, eqb-false, le-leb, lt-leb, ne_eqb}
use Rattle.wave.specs.declared.kinds.Wave.{Wave}
use Rattle.wave.specs.declared.count.Counter.{Counter}
use Rattle.wave.specs.Kinds.{C, F, P}
use Rattle.wave.specs.Count.{falls, top_of, hits, overflows, loads, at_top, at_zero, next_count, next_direction, counted, Turns}
use Rattle.wave.specs.Distance.{space, ahead, gap_at, gap, moved}
use Rattle.tick.specs.declared.setting.Moving.{Moving}
use Rattle.tick.specs.declared.setting.Setting.{Setting}
use Rattle.tick.specs.Outputs.{outputs, matches_of, matched}
use Rattle.tick.specs.Tick.{events_at, raised, raises, flag_log_of, tick_by, tick, events_of}
use Rattle.tick.specs.Skip.{linear}
use Rattle.tick.specs.Sound.{Steady, Sound}
use Rattle.tick.specs.Keeps.{TickKeeps, StepKeeps, TickWraps, StepWraps}
use Rattle.tick.proofs.Choices.{and_left, cond-case, cond-all, cond-le}
use Rattle.tick.proofs.Bounds.{gap_down, gap_up}

-- ---- a tick in which nothing happens
-- the count stands at no limit and goes on
pub record Free (w : Wave) (c : Counter) (top : ℕ) : Type 0 where
  pub not_top : at_top w c top ≡ false
  pub not-zero : at_zero w c ≡ false
  pub no_overflow : overflows w false false (eqb c.count w.max) ≡ false
  pub next : next_count w c top ≡ moved (falls w c) c.count 1

-- and no compare is met
pub record Still (w : Wave) (m : Moving) : Type 0 where
  pub free : Free w m.counter (top_of w (get_or m.ocr 0 0))
  pub a : hits m.counter w.a (get_or m.ocr 0 0) ≡ false
  pub b : hits m.counter w.b (get_or m.ocr 1 0) ≡ false
  pub c : hits m.counter w.c (get_or m.ocr 2 0) ≡ false

cond_same : {A : Type 0} (b : Bool) (x : A) → cond b x x ≡ x
cond_same true x = refl
cond_same false x = refl

pub tick-still : (s : Setting) (m : Moving) → Still s.wave m → tick s m ≡ record { moving = linear s.wave 1 m; log = [] }
unfolding tick_by events_at outputs matches_of matched raised raises flag_log_of loads next_direction linear
tick-still s m q = simp (q.a, q.b, q.c, q.free.not_top, q.free.not-zero, q.free.no_overflow, q.free.next, cond_same, and-false, or_zero_r)

-- ---- below the gap nothing happens
falling : (w : Wave) (c : Counter) (top : ℕ) → falls w c ≡ true → 0 < c.count → Free w c top
unfolding falls at_top at_zero overflows next_count moved
falling w c top e h =
    let k : P ≤ w.kind = leb-true P w.kind (and_left _ _ e) in
    let z = ne_eqb c.count 0 (omega arith) in
    record { not_top = simp e; not-zero = simp (e, z); no_overflow = simp (lt-leb w.kind C (omega arith), cond_same); next = simp (e, z) }

climbing : (w : Wave) (c : Counter) (top : ℕ) → falls w c ≡ false → eqb c.count top ≡ false → eqb c.count w.max ≡ false → Free w c top
unfolding at_top at_zero overflows next_count moved
climbing w c top e t x = record { not_top = simp (e, t); not-zero = simp e; no_overflow = simp (x, cond_same); next = simp (e, t, x, and-false) }

-- a compare that lies ahead is not met yet, nor is TOP
ahead-miss : (present down : Bool) (count compare all i : ℕ) → i < ahead present down count compare all → present && eqb (moved down count i) compare ≡ false
unfolding ahead moved
ahead-miss false down c o all i h = refl
ahead-miss true true c o all i h = ne_eqb (c - i) o (λ e. let k = rw (le-leb o c (omega arith)) at h in omega arith)
ahead-miss true false c o all i h = ne_eqb (c + i) o (λ e. let k = rw (le-leb c o (omega arith)) at h in omega arith)

top-miss : (count top most i : ℕ) → i < space false count top most → eqb (count + i) top ≡ false
unfolding space
top-miss c top most i h = ne_eqb (c + i) top (λ e. let k = rw (le-leb c top (omega arith)) at h in omega arith)

module _ (w : Wave) (m : Moving) (v : Steady w m) (i : ℕ) (h : i < gap w m.counter m.ocr) where
  free-at : (down : Bool) → falls w m.counter ≡ down → Free w (linear w i m).counter (top_of w (get_or m.ocr 0 0))
  unfolding gap gap_at linear falls moved
  free-at true e = let k = gap_down w m v (suc i) e h in falling w _ _ e (simp e (omega arith))
  free-at false e =
      let k = gap_up w m v (suc i) e h in
      let l : i < space (falls w m.counter) m.counter.count (top_of w (get_or m.ocr 0 0)) w.max = omega arith in
      climbing w _ _ e (simp (e, top-miss _ _ _ _ (simp e at l))) (simp (e, ne_eqb (m.counter.count + i) w.max (omega arith)))

  miss : (present : Bool) (ch all : ℕ) → i < ahead present (falls w m.counter) m.counter.count (get_or m.ocr ch 0) all → hits (linear w i m).counter present (get_or m.ocr ch 0) ≡ false
  unfolding hits linear
  miss present ch all k = simp (ahead-miss present _ _ _ all i k, and-false)

  pub still-at : Still w (linear w i m)
  unfolding gap gap_at linear
  still-at = record { free = free-at _ refl; a = miss w.a 0 all (omega arith); b = miss w.b 1 all (omega arith); c = miss w.c 2 all (omega arith) }
    where
      all : ℕ
      all = space (falls w m.counter) m.counter.count (top_of w (get_or m.ocr 0 0)) w.max

-- ---- linear steps add up
moved-suc : (down : Bool) (count n : ℕ) → moved down (moved down count n) 1 ≡ moved down count (suc n)
unfolding moved
moved-suc true count n = omega arith
moved-suc false count n = omega arith

counted-suc : (odometer n : ℕ) → counted (counted odometer n) 1 ≡ counted odometer (suc n)
counted-suc odometer n = omega arith

pub linear-suc : (w : Wave) (n : ℕ) (m : Moving) → linear w 1 (linear w n m) ≡ linear w (suc n) m
unfolding linear falls
linear-suc w n m = simp (moved-suc, counted-suc, eqb-suc-zero, and-false)

pub linear-none : (w : Wave) (m : Moving) → m.counter.odometer < 2 ^ 64 → linear w 0 m ≡ m
unfolding linear moved
linear-none w m h =
    let k : m.counter.odometer % 2 ^ 64 ≡ m.counter.odometer = omega arith in
    simp (k, add-zero, sub-zero, cond_same, and-true)

-- ---- what is sound stays so
sound-at : (s : Setting) (m k : Moving) → Sound s m → k.counter.count ≤ s.wave.max → Turns k.counter.direction → k.counter.odometer < 2 ^ 64 → ((ch : ℕ) → get_or k.ocr ch 0 ≤ s.wave.max) → Sound s k
sound-at s m k v c d n o =
    record {
      steady = record { least = v.steady.least; most = v.steady.most; fixed = v.steady.fixed; icr = v.steady.icr; compares = o; count = c; turns = d; odometer = n };
      buffers = v.buffers;
    }

pub step_keeps : StepKeeps
unfolding linear moved
step_keeps s n m v h = sound-at s m _ v (cond-case (λ (c : ℕ). c ≤ s.wave.max) (falls s.wave m.counter) (λ e. omega arith) (λ e. gap_up s.wave m v.steady n e h)) v.steady.turns (omega arith) v.steady.compares

next-max : (w : Wave) (m : Moving) (top : ℕ) → Steady w m → next_count w m.counter top ≤ w.max
unfolding next_count
next-max w m top v =
    cond-le (falls w m.counter)
    (cond-le (eqb m.counter.count 0) (cond-le (eqb top 0) (omega arith) (omega arith)) (omega arith))
    (cond-le (leb C w.kind && eqb m.counter.count top)
    (cond-le (leb w.kind F) (omega arith) (cond-le (eqb top 0) (omega arith) (omega arith)))
    (cond-case (λ (n : ℕ). n ≤ w.max) (eqb m.counter.count w.max) (λ e. omega arith) (λ e. omega (arith, eqb-false m.counter.count w.max e))))

pub next-turns : (w : Wave) (d : ℤ) (top zero : Bool) → Turns d → Turns (next_direction w d top zero)
unfolding next_direction
next-turns w d top zero h = cond-all Turns (leb P w.kind && top) (inr refl) (cond-all Turns zero (inl refl) h)

pub tick-keeps : TickKeeps
unfolding tick_by
tick-keeps s m v =
    sound-at s m _ v (next-max s.wave m _ v.steady) (next-turns s.wave _ _ _ v.steady.turns) (omega arith)
    (cond-all (λ (l : List ℕ). (ch : ℕ) → get_or l ch 0 ≤ s.wave.max) (events_of s m).load v.buffers v.steady.compares)

-- ---- the odometer goes over its last number
pub tick-wraps : TickWraps
unfolding tick_by
tick-wraps s m e = rw e

pub step-wraps : StepWraps
unfolding linear
step-wraps w n m k h l = omega arith
