-- Quiet ticks bring the next event nearer, and change nothing of what its tick raises.
use Prim.Native.Nat.{ℕ, zero, suc, ◌+◌, ◌-◌, ◌≤◌, min}
use native.Mathlib.Omega.{arith}
use native.Mathlib.Nat.{zero-add, suc-add}
use mathlib.Core.Path.{◌≡◌, refl, ap, ◌∙◌}
use mathlib.Core.Bool.{Bool, true, false, cond, ◌&&◌, and-true, and-false}
use mathlib.Core.List.{List}
use lib.Dec.{eqb, leb, eqb-suc-zero}
use lib.ListN.{get_or}
use borrow.Author.Tests.{leb-true, leb-false, le-leb, lt-leb}
use Rattle.wave.specs.declared.count.Counter.{Counter}
use Rattle.wave.specs.declared.kinds.Wave.{Wave}
use Rattle.wave.specs.Count.{falls, top_of, counted}
use Rattle.wave.specs.Distance.{space, ahead, gap_at, gap, moved, skipped}
use Rattle.tick.specs.declared.setting.Moving.{Moving}
use Rattle.tick.specs.declared.setting.Setting.{Setting}
use Rattle.tick.specs.Distance.{flags_ahead}
use Rattle.tick.specs.Skip.{linear}

-- ---- the gap is so many ticks less
space-less : (down : Bool) (count top most n : ℕ) → n ≤ space down count top most → space down (moved down count n) top most ≡ space down count top most - n
unfolding space moved
space-less true count top most n h = refl
space-less false count top most n h = go (leb count top) refl h
  where
    go : (b : Bool) → leb count top ≡ b → n ≤ cond b (top - count) (most - count)
        → cond (leb (count + n) top) (top - (count + n)) (most - (count + n)) ≡ cond b (top - count) (most - count) - n
    go true e k = let l = leb-true count top e in rw (le-leb (count + n) top (omega arith)) (omega arith)
    go false e k = let l = leb-false count top e in rw (lt-leb (count + n) top (omega arith)) (omega arith)

ahead-less : (present down : Bool) (count compare all n : ℕ) → n ≤ ahead present down count compare all
    → ahead present down (moved down count n) compare (all - n) ≡ ahead present down count compare all - n
unfolding ahead moved
ahead-less false down count compare all n h = refl
ahead-less true true count compare all n h = go (leb compare count) refl h
  where
    go : (b : Bool) → leb compare count ≡ b → n ≤ cond b (count - compare) all
        → cond (leb compare (count - n)) (count - n - compare) (all - n) ≡ cond b (count - compare) all - n
    go true e k = let l = leb-true compare count e in rw (le-leb compare (count - n) (omega arith)) (omega arith)
    go false e k = let l = leb-false compare count e in rw (lt-leb compare (count - n) (omega arith)) (omega arith)
ahead-less true false count compare all n h = go (leb count compare) refl h
  where
    go : (b : Bool) → leb count compare ≡ b → n ≤ cond b (compare - count) all
        → cond (leb (count + n) compare) (compare - (count + n)) (all - n) ≡ cond b (compare - count) all - n
    go true e k = let l = leb-true count compare e in rw (le-leb (count + n) compare (omega arith)) (omega arith)
    go false e k = let l = leb-false count compare e in rw (lt-leb (count + n) compare (omega arith)) (omega arith)

min-less : (a b n : ℕ) → min (a - n) (b - n) ≡ min a b - n
min-less a b n = omega arith

all-less : (w : Wave) (down : Bool) (count : ℕ) (ocr : List ℕ) (all n : ℕ) → n ≤ gap_at w down count ocr all → gap_at w down (moved down count n) ocr (all - n) ≡ gap_at w down count ocr all - n
unfolding gap_at
all-less w down count ocr all n h =
    let a = ahead-less w.a down count (get_or ocr 0 0) all n (omega arith) in
    let b = ahead-less w.b down count (get_or ocr 1 0) all n (omega arith) in
    let c = ahead-less w.c down count (get_or ocr 2 0) all n (omega arith) in
    simp (a, b, c, min-less)

within-space : (w : Wave) (down : Bool) (count : ℕ) (ocr : List ℕ) (all n : ℕ) → n ≤ gap_at w down count ocr all → n ≤ all
unfolding gap_at
within-space w down count ocr all n h = omega arith

both-less : (w : Wave) (down : Bool) (count top : ℕ) (ocr : List ℕ) (n : ℕ) → n ≤ gap_at w down count ocr (space down count top w.max)
    → gap_at w down (moved down count n) ocr (space down (moved down count n) top w.max) ≡ gap_at w down count ocr (space down count top w.max) - n
both-less w down count top ocr n h = rw (space-less down count top w.max n (within-space w down count ocr _ n h)) (all-less w down count ocr _ n h)

gap-less : (w : Wave) (c : Counter) (ocr : List ℕ) (n : ℕ) → n ≤ gap w c ocr → gap w (skipped w n c) ocr ≡ gap w c ocr - n
unfolding gap falls
gap-less w c ocr n h = both-less w (falls w c) c.count (top_of w (get_or ocr 0 0)) ocr n h

pub near-gap : (w : Wave) (n : ℕ) (m : Moving) → n ≤ gap w m.counter m.ocr → gap w (linear w n m).counter (linear w n m).ocr ≡ gap w m.counter m.ocr - n
unfolding linear
near-gap w n m h = gap-less w m.counter m.ocr n h

-- ---- linear steps add up
moved-add : (down : Bool) (count a b : ℕ) → moved down (moved down count a) b ≡ moved down count (a + b)
unfolding moved
moved-add true count a b = omega arith
moved-add false count a b = omega arith

none_both : (x : Bool) (a b : ℕ) → x && eqb a 0 && eqb b 0 ≡ x && eqb (a + b) 0
none_both x zero b = simp (and-true, zero-add)
none_both x (suc a) b = simp (eqb-suc-zero, suc-add, and-false)

counted-add : (odometer a b : ℕ) → counted (counted odometer a) b ≡ counted odometer (a + b)
counted-add odometer a b = omega arith

linear-add : (w : Wave) (a b : ℕ) (m : Moving) → linear w b (linear w a m) ≡ linear w (a + b) m
unfolding linear falls
linear-add w a b m = simp (moved-add, none_both, counted-add)

-- ---- the flags stay
pub flags-stay : (s : Setting) (n : ℕ) (m : Moving) → n ≤ gap s.wave m.counter m.ocr → flags_ahead s (linear s.wave n m) ≡ flags_ahead s m
unfolding flags_ahead
flags-stay s n m h =
    let k : n + (gap s.wave m.counter m.ocr - n) ≡ gap s.wave m.counter m.ocr = omega arith in
    let l = linear-add s.wave n (gap s.wave m.counter m.ocr - n) m ∙ ap (λ (z : ℕ). linear s.wave z m) k in
    rw (near-gap s.wave n m h, l)
