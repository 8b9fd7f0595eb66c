-- A sync below the next event keeps it, its flags too.
use Prim.Native.Nat.{ℕ, zero, suc, ◌+◌, ◌-◌, ◌≤◌, ◌<◌, min}
use native.Mathlib.Omega.{arith}
use native.Mathlib.Numerals.{unary_clauses}
use mathlib.Core.Path.{◌≡◌, refl, ap, ◌∙◌}
use mathlib.Core.Bool.{Bool, true, false, cond, ◌&&◌}
use mathlib.Core.List.{[]}
use lib.ListN.{get_or}
use lib.Dec.{eqb, leb, eqb-suc-zero}
use borrow.Author.Tests.{leb-true, leb-false, le-leb, lt-leb}
use Rattle.wave.specs.declared.kinds.Wave.{Wave}
use Rattle.wave.specs.Count.{falls, top_of}
use Rattle.wave.specs.Distance.{space, ahead, gap_at, gap, moved}
use Rattle.time.proofs.Clocks.{ticks-mono}
use Rattle.time.specs.Units.{ticks_at, cycle_at}
use Rattle.tick.specs.Skip.{linear}
use Rattle.tick.specs.Tick.{raised, events_of}
use Rattle.passage.specs.Passage.{ticks, quiet}
use Rattle.passage.proofs.Runs.{quiet-ticks}
use Rattle.counter.specs.declared.state.Timer.{Timer}
use Rattle.counter.specs.Modes.{mode_of, wave_of, divisor_of, prescaler_of, held_of, running_of}
use Rattle.counter.specs.Setting.{setting_at, setting_of, moving_of, settle}
use Rattle.counter.specs.Next.{next_at, next_of}
use Rattle.tick.specs.Distance.{flags_ahead}
use Rattle.tick.specs.declared.setting.Moving.{Moving}
use Rattle.wave.specs.Count.{counted}
use Rattle.counter.specs.Passage.{Passed, due, start, sync_to, sync_of, passed, synced}
use Rattle.counter.specs.Valid.{Valid}
use Rattle.counter.proofs.Clocks.{running-divides, due-gap}
use Rattle.counter.proofs.Runs.{start-kept}
use Rattle.held.specs.Laws.{GapShrinks, SyncKeepsNext}

-- ---- quiet ticks that have passed no longer lie ahead
space-shrinks : (down : Bool) (count top most n : ℕ) → n ≤ space down count top most → space down (moved down count n) top most ≡ space down count top most - n
unfolding space moved
space-shrinks true count top most n h = refl
space-shrinks false count top most n h = go (leb count top) refl
  where
    go : (b : Bool) → leb count top ≡ b → cond (leb (count + n) top) (top - (count + n)) (most - (count + n)) ≡ cond (leb count top) (top - count) (most - count) - n
    go true e = let l = leb-true count top e in let k : n ≤ top - count = rw e at h in rw (e, le-leb (count + n) top (omega arith)) (omega arith)
    go false e = let l = leb-false count top e in let k : n ≤ most - count = rw e at h in rw (e, lt-leb (count + n) top (omega arith)) (omega arith)

ahead-shrinks : (present down : Bool) (count compare all n : ℕ) → n ≤ ahead present down count compare all → ahead present down (moved down count n) compare (all - n) ≡ ahead present down count compare all - n
unfolding ahead moved
ahead-shrinks false down count o all n h = refl
ahead-shrinks true true count o all n h = go (leb o count) refl
  where
    go : (b : Bool) → leb o count ≡ b → cond (leb o (count - n)) (count - n - o) (all - n) ≡ cond (leb o count) (count - o) all - n
    go true e = let l = leb-true o count e in let k : n ≤ count - o = rw e at h in rw (e, le-leb o (count - n) (omega arith)) (omega arith)
    go false e = let l = leb-false o count e in rw (e, lt-leb o (count - n) (omega arith)) refl
ahead-shrinks true false count o all n h = go (leb count o) refl
  where
    go : (b : Bool) → leb count o ≡ b → cond (leb (count + n) o) (o - (count + n)) (all - n) ≡ cond (leb count o) (o - count) all - n
    go true e = let l = leb-true count o e in let k : n ≤ o - count = rw e at h in rw (e, le-leb (count + n) o (omega arith)) (omega arith)
    go false e = let l = leb-false count o e in rw (e, lt-leb (count + n) o (omega arith)) refl

min-shrinks : (a b n : ℕ) → min (a - n) (b - n) ≡ min a b - n
min-shrinks a b n = omega arith

pub gap-shrinks : GapShrinks
unfolding gap gap_at falls
gap-shrinks w c ocr n h = simp (s, a w.a 0 (omega arith), a w.b 1 (omega arith), a w.c 2 (omega arith), min-shrinks)
  where
    d : Bool
    d = falls w c

    all : ℕ
    all = space d c.count (top_of w (get_or ocr 0 0)) w.max

    s : space d (moved d c.count n) (top_of w (get_or ocr 0 0)) w.max ≡ all - n
    s = space-shrinks d c.count (top_of w (get_or ocr 0 0)) w.max n (omega arith)

    a : (present : Bool) (ch : ℕ) → n ≤ ahead present d c.count (get_or ocr ch 0) all → ahead present d (moved d c.count n) (get_or ocr ch 0) (all - n) ≡ ahead present d c.count (get_or ocr ch 0) all - n
    a present ch k = ahead-shrinks present d c.count (get_or ocr ch 0) all n k

-- ---- and a linear step may stop on its way
moved_on : (down : Bool) (count n g : ℕ) → n ≤ g → moved down (moved down count n) (g - n) ≡ moved down count g
unfolding moved
moved_on true count n g h = omega arith
moved_on false count n g h = omega arith

counted-on : (odometer n g : ℕ) → n ≤ g → counted (counted odometer n) (g - n) ≡ counted odometer g
counted-on odometer n g h = omega arith

blocked-on : (b : Bool) (n g : ℕ) → n ≤ g → (b && eqb n 0) && eqb (g - n) 0 ≡ b && eqb g 0
blocked-on false n g h = refl
blocked-on true zero g h = simp unary_clauses refl
blocked-on true (suc n) zero h = absurd (omega arith)
blocked-on true (suc n) (suc g) h = simp eqb-suc-zero

pub linear-on : (w : Wave) (n g : ℕ) (m : Moving) → n ≤ g → linear w (g - n) (linear w n m) ≡ linear w g m
unfolding linear falls
linear-on w n g m h = simp (moved_on (falls w m.counter) m.counter.count n g h, counted-on m.counter.odometer n g h, blocked-on m.counter.blocked n g h)

-- ---- so a sync below the next event keeps the next event
-- a sync below the next event is one linear step
pub synced-quietly : (t : Timer) (cycle : ℕ) → Valid t → t.clock.sync.0 ≤ cycle → (running_of t ≡ true → cycle < next_at t) → synced ticks t cycle ≡ record { timer = sync_to (settle t (linear (wave_of t (mode_of t)) (due t cycle) (moving_of t))) cycle; bytes = []; paused = false }
unfolding synced passed quiet start sync_of setting_at
synced-quietly t cycle v s h = ap (passed t cycle) (quiet-ticks _ _ _ _ _ (start-kept (λ k. true) t v refl) refl (due-gap t cycle v s h))

-- the ticks due are those up to the cycle
module _ (t : Timer) (cycle : ℕ) (v : Valid t) (s : t.clock.sync.0 ≤ cycle) (h : running_of t ≡ true → cycle < next_at t) where
  abbrev pub after : Timer
  after = sync_to (settle t (linear (wave_of t (mode_of t)) (due t cycle) (moving_of t))) cycle

  next-at : running_of t ≡ true → next_at after ≡ next_at t
  unfolding next_at linear wave_of mode_of divisor_of sync_to due
  next-at e =
      let g = gap-shrinks (wave_of t (mode_of t)) t.counter t.ocr (due t cycle) (due-gap t cycle v s h) in
      let k = due-gap t cycle v s h in
      let m = ticks-mono (prescaler_of t) t.clock.sync.0 cycle (running-divides t e) s in
      let n : due t cycle ≡ ticks_at (prescaler_of t) cycle - ticks_at (prescaler_of t) t.clock.sync.0 = due-is e in
      ap (cycle_at (prescaler_of t)) (rw g (omega arith))
    where
      due-is : running_of t ≡ true → due t cycle ≡ ticks_at (prescaler_of t) cycle - ticks_at (prescaler_of t) t.clock.sync.0
      due-is e = rw e

  pub runs : running_of after ≡ running_of t
  unfolding running_of divisor_of held_of sync_to
  runs = refl

  flags-at : flags_ahead (setting_of after) (moving_of after) ≡ flags_ahead (setting_of t) (moving_of t)
  unfolding flags_ahead setting_at wave_of mode_of sync_to linear
  flags-at =
      let k = due-gap t cycle v s h in
      let g = gap-shrinks (wave_of t (mode_of t)) t.counter t.ocr (due t cycle) k in
      let l = linear-on (wave_of t (mode_of t)) (due t cycle) (gap (wave_of t (mode_of t)) t.counter t.ocr) (moving_of t) k in
      ap (λ (m : Moving). raised (setting_of t) (events_of (setting_of t) m)) (rw g l)

  pub next-of : next_of after ≡ next_of t
  unfolding next_of
  next-of = go (running_of t) refl
    where
      go : (b : Bool) → running_of t ≡ b → next_of after ≡ next_of t
      go true e = rw (runs, e, next-at e, flags-at) refl
      go false e = rw (runs, e)

pub sync-keeps-next : SyncKeepsNext
sync-keeps-next t cycle v s h = ap (λ (x : Passed). next_of x.timer) (synced-quietly t cycle v s h) ∙ next-of t cycle v s h
