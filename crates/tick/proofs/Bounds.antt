-- Bounds of TOP and of the quiet ticks ahead. All stay within MAX.
use Prim.Native.Nat.{ℕ, ◌+◌, ◌-◌, ◌≤◌, ◌<◌}
use native.Mathlib.Omega.{arith}
use native.Mathlib.Nat.{sub-le}
use mathlib.Core.Path.{◌≡◌, sym}
use mathlib.Core.Bool.{Bool, true, false, cond}
use lib.ListN.{get_or}
use lib.Dec.{eqb, leb}
use Rattle.wave.specs.declared.kinds.Wave.{Wave}
use Rattle.wave.specs.Kinds.{X, A}
use Rattle.wave.specs.Count.{falls, top_of}
use Rattle.wave.specs.Distance.{space, gap_at, gap}
use Rattle.tick.specs.declared.setting.Moving.{Moving}
use Rattle.tick.specs.Sound.{Steady}
use Rattle.tick.proofs.Choices.{cond-le}

-- ---- TOP, and the quiet ticks ahead: falling they do not pass 0, rising they do not pass MAX
space-room : (down : Bool) (count top most : ℕ) → top ≤ most → space down count top most ≤ cond down count (most - count)
unfolding space
space-room true count top most h = omega arith
space-room false count top most h = cond-le (leb count top) (omega arith) (omega arith)

module _ (w : Wave) (m : Moving) (v : Steady w m) where
  pub top-max : top_of w (get_or m.ocr 0 0) ≤ w.max
  unfolding top_of
  top-max = cond-le (eqb w.source X) v.fixed (cond-le (eqb w.source A) (v.compares 0) v.icr)

  gap-room : gap w m.counter m.ocr ≤ cond (falls w m.counter) m.counter.count (w.max - m.counter.count)
  unfolding gap gap_at
  gap-room = let h = space-room (falls w m.counter) m.counter.count (top_of w (get_or m.ocr 0 0)) w.max top-max in omega arith

  pub gap_down : (n : ℕ) → falls w m.counter ≡ true → n ≤ gap w m.counter m.ocr → n ≤ m.counter.count
  gap_down n e h = let k = simp e at gap-room in omega arith

  pub gap_up : (n : ℕ) → falls w m.counter ≡ false → n ≤ gap w m.counter m.ocr → m.counter.count + n ≤ w.max
  gap_up n e h = let k = simp e at gap-room in omega arith

  pub gap-max : gap w m.counter m.ocr ≤ w.max
  gap-max = let k = cond-le (falls w m.counter) v.count (sub-le w.max m.counter.count) in omega (arith, gap-room)

-- ---- a skip: what `moved` asks
pub gap-moves : (w : Wave) (m : Moving) (n : ℕ) (b : Bool) → Steady w m → n ≤ gap w m.counter m.ocr → b ≡ falls w m.counter → cond b (n ≤ m.counter.count) (m.counter.count + n < 65536)
gap-moves w m n true v h e = gap_down w m v n (sym e) h
gap-moves w m n false v h e = let k = gap_up w m v n (sym e) h in omega arith
