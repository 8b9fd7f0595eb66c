-- The tick of a rising count, from its scene.
use Prim.Native.Nat.{ℕ, ◌+◌, ◌-◌, ◌*◌, ◌/◌, ◌<◌}
use native.Mathlib.Omega.{arith}
use native.Mathlib.Nat.{add-mul, mul-div_cancel}
use mathlib.Core.Path.{◌≡◌, refl}
use mathlib.Core.Bool.{Bool, true, false, cond, ◌&&◌}
use mathlib.Core.List.{◌++◌}
use lib.Bits.{bit_or}
use lib.Dec.{eqb, leb}
use borrow.Author.Tests.{leb-true, leb-false, lt-leb, le-leb, eq-eqb, ne_eqb}
use Rattle.time.specs.declared.units.Prescaler.{Prescaler}
use Rattle.time.specs.Units.{ticks_at, cycle_at}
use Rattle.wave.specs.Kinds.{C, F, P}
use Rattle.wave.specs.Count.{falls, at_top, at_zero, loads, next_direction, counted}
use Rattle.tick.specs.declared.setting.Moving.{Moving}
use Rattle.tick.specs.declared.setting.Setting.{Setting}
use Rattle.tick.specs.Outputs.{outs_of}
use Rattle.tick.specs.Tick.{events_at, events_of, tick_by, tick}
use Rattle.tick.specs.Skip.{linear}
use Rattle.scene.specs.Scene.{Rising, Apart, scene_of, after_at, told_of, driven_of}
use Rattle.scene.specs.Laws.{top_now, up_now}
use Rattle.scene.proofs.Laws.{after_is, told_is, driven-is}

-- ---- a tick lies a divisor after the last
module _ (p : Prescaler) (x n : ℕ) (d : 0 < p.divisor) (e : cycle_at p (ticks_at p x) ≡ x) where
  pub later-ticks : ticks_at p (x + n * p.divisor) ≡ ticks_at p x + n
  unfolding ticks_at cycle_at
  later-ticks =
      let k : ℕ = (x - p.origin.0) / p.divisor in
      let a = add-mul k n p.divisor in
      let q : x + n * p.divisor - p.origin.0 ≡ (k + n) * p.divisor = omega arith in
      rw q (mul-div_cancel (k + n) d)

  later-cycle : cycle_at p (ticks_at p x + n) ≡ x + n * p.divisor
  unfolding cycle_at
  later-cycle = let a = add-mul (ticks_at p x) n p.divisor in omega (arith, e)

  pub later-aligned : cycle_at p (ticks_at p (x + n * p.divisor)) ≡ x + n * p.divisor
  later-aligned = rw later-ticks later-cycle

-- ---- a rising count
module _ (s : Setting) (m : Moving) (r : Rising s m) where
  low : leb P s.wave.kind ≡ false
  low = lt-leb P s.wave.kind (let h = leb-true s.wave.kind F r.kind in omega arith)

  pub no-fall : falls s.wave m.counter ≡ false
  unfolding falls
  no-fall = simp low

  pub bottom-is : (events_of s m).bottom ≡ eqb s.wave.kind F && eqb m.counter.count (top_now s m)
  unfolding events_at at_top
  bottom-is = simp no-fall

  -- it loads where it goes to BOTTOM
  load_at : (k : ℕ) (top zero : Bool) → leb k F ≡ true → cond (leb k C) false (cond (leb k P) top zero) ≡ eqb k F && top
  load_at k top zero h = go (leb k C) refl
    where
      go : (b : Bool) → leb k C ≡ b → cond (leb k C) false (cond (leb k P) top zero) ≡ eqb k F && top
      go true e = let n = leb-true k C e in simp (e, ne_eqb k F (λ (q : k ≡ F). omega arith))
      go false e =
          let n = leb-false k C e in
          let l = leb-true k F h in
          simp (e, eq-eqb k F (omega arith), le-leb k P (omega arith))

  load_is : (events_of s m).load ≡ (events_of s m).bottom
  unfolding events_at loads
  load_is = load_at s.wave.kind _ _ r.kind

  -- and never turns
  same_way : next_direction s.wave m.counter.direction (events_of s m).top (events_of s m).zero ≡ m.counter.direction
  unfolding next_direction events_at at_zero
  same_way = simp (low, no-fall)

  pub tick-rising : Apart s → tick s m ≡ record {
    moving = record {
      counter = record { count = after_at (scene_of s) m.counter.count (top_now s m); direction = m.counter.direction; blocked = false; odometer = counted m.counter.odometer 1 };
      ocr = cond (events_of s m).bottom s.buffer m.ocr;
      oc = (driven_of (scene_of s) (up_now s m) (events_of s m).bottom (outs_of m)).oc;
      drives = (driven_of (scene_of s) (up_now s m) (events_of s m).bottom (outs_of m)).drives;
      tifr = bit_or m.tifr (up_now s m);
    };
    log = (driven_of (scene_of s) (up_now s m) (events_of s m).bottom (outs_of m)).log ++ told_of (scene_of s) (up_now s m) (bit_or m.tifr (up_now s m));
  }
  unfolding tick_by
  tick-rising a = rw (after_is s m r, told_is s m (bit_or m.tifr (up_now s m)) r a, driven-is s m (outs_of m) r a, load_is, same_way)

  pub near-rising : (n : ℕ) → Rising s (linear s.wave n m)
  unfolding linear
  near-rising n = record { kind = r.kind; free = simp r.free }
