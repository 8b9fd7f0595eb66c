-- What a scene tells of the next event is the distance and its flags.
use Rattle.std.proofs.Common.{◌≡◌, ℕ, ◌+◌, Bool, true, false, cond, not, ◌&&◌, eqb, leb, get_or, sym, refl, ap, ◌∙◌, ap₂, arith, eqb-true, le-leb, leb-false, leb-true}
use lib.Bits.{bit_or}
use borrow.Author.Tests.{eqb-false, lt-leb, not-false}
use Rattle.wave.specs.declared.kinds.Wave.{Wave}
use Rattle.wave.specs.declared.count.Counter.{Counter}
use Rattle.wave.specs.Kinds.{C, F, P, I}
use Rattle.wave.specs.Count.{falls, hits, overflows, at_top, at_zero}
use Rattle.wave.specs.Distance.{space, gap}
use Rattle.tick.specs.declared.setting.Moving.{Moving}
use Rattle.tick.specs.declared.setting.Setting.{Setting}
use Rattle.tick.specs.Distance.{flags_ahead}
use Rattle.tick.specs.Skip.{linear}
use Rattle.tick.specs.Tick.{events_at, events_of, raised}
use Rattle.scene.specs.Scene.{Apart, scene_of}
use Rattle.scene.specs.Laws.{top_now, up_now}
use Rattle.scene.proofs.Laws.{nears}
use Rattle.coming.specs.Coming.{gap_in, over_in, bits_in, coming_at}
use Rattle.coming.specs.Laws.{ComingIs}

-- ---- the way to the next event
gap_is : (s : Setting) (m : Moving) → gap_in (scene_of s) (falls s.wave m.counter) m.counter.count (top_now s m) m.ocr ≡ gap s.wave m.counter m.ocr
unfolding scene_of gap_in gap
gap_is s m = nears s.wave (falls s.wave m.counter) m.counter.count (space (falls s.wave m.counter) m.counter.count (top_now s m) s.wave.max) m.ocr

-- ---- the bits raised
module _ (s : Setting) (m : Moving) where
  abbrev w : Wave
  w = s.wave

  abbrev c : Counter
  c = m.counter

  abbrev count : ℕ
  count = c.count

  -- only P and Q fall
  fast-rises : eqb w.kind F ≡ true → falls w c ≡ false
  unfolding falls
  fast-rises e = let k = eqb-true w.kind F e in rw k refl

  over : over_in (scene_of s) (falls w c) count (top_now s m) ≡ (events_of s m).overflow
  unfolding scene_of over_in events_at overflows at_top at_zero
  over = go (eqb w.kind F) (leb P w.kind) refl refl
    where
      go : (f d : Bool) → eqb w.kind F ≡ f → leb P w.kind ≡ d
          → cond f (eqb count (top_now s m)) (cond d (falls w c && eqb count 0) (eqb count w.max))
          ≡ cond (leb w.kind C) (eqb count w.max) (cond f (not (falls w c) && eqb count (top_now s m)) (falls w c && eqb count 0))
      go true d e h = let k = eqb-true w.kind F e in rw (fast-rises e, k) refl
      go false true e h = let k = leb-true P w.kind h in rw (lt-leb w.kind C (omega arith)) refl
      go false false e h =
          let k = eqb-false w.kind F e in
          let l = leb-false P w.kind h in
          rw (le-leb w.kind C (omega (arith, k))) refl

  -- a unit that is not there has no bit
  unit : (free present here : Bool) (flag : ℕ) → present ≡ not (eqb flag 0) → cond (free && here) flag 0 ≡ cond (free && (present && here)) flag 0
  unit false present here flag e = refl
  unit true true here flag e = refl
  unit true false true flag e = eqb-true flag 0 (not-false (eqb flag 0) (sym e))
  unit true false false flag e = refl

  compared : (present : Bool) (compare flag : ℕ) → present ≡ not (eqb flag 0) → cond (not c.blocked && eqb count compare) flag 0 ≡ cond (hits c present compare) flag 0
  unfolding hits
  compared present compare flag e = unit (not c.blocked) present (eqb count compare) flag e

  captured : cond (not (falls w c) && eqb count (top_now s m)) (cond (eqb w.source I && s.capture) s.icf 0) 0 ≡ cond (events_of s m).capture s.icf 0
  unfolding events_at at_top
  captured = go (not (falls w c) && eqb count (top_now s m)) (eqb w.source I && s.capture)
    where
      go : (t u : Bool) → cond t (cond u s.icf 0) 0 ≡ cond (u && t) s.icf 0
      go true true = refl
      go true false = refl
      go false true = refl
      go false false = refl

bits_are : (s : Setting) (m : Moving) → Apart s → bits_in (scene_of s) (falls s.wave m.counter) (not m.counter.blocked) m.counter.count (top_now s m) m.ocr ≡ up_now s m
unfolding scene_of bits_in raised events_at
bits_are s m k =
    ap₂ bit_or
    (ap₂ bit_or
    (ap₂ bit_or
    (ap₂ bit_or
    (ap (λ (b : Bool). cond b s.tov 0) (over s m))
    (compared s m s.wave.a (get_or m.ocr 0 0) s.a.flag k.a))
    (compared s m s.wave.b (get_or m.ocr 1 0) s.b.flag k.b))
    (captured s m))
    (compared s m s.wave.c (get_or m.ocr 2 0) s.c.flag k.c)

-- ---- both
pub coming-is : ComingIs
unfolding scene_of flags_ahead linear falls
coming-is s m k =
    ap (coming_at (scene_of s) (falls s.wave m.counter) m.counter (top_now s m) m.ocr) (gap_is s m)
    ∙ ap (λ (f : ℕ). record { ticks = gap s.wave m.counter m.ocr + 1; flags = f }) (bits_are s (linear s.wave (gap s.wave m.counter m.ocr) m) k)
