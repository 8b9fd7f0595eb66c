-- What is kept of a timer whose scene stands.
use Prim.Native.Nat.{ℕ}
use mathlib.Core.Bool.{Bool, true, false, cond}
use mathlib.Core.Path.{◌≡◌, refl, sym, ap, ◌∙◌}
use lib.Dec.{eqb}
use lib.ListN.{get_or}
use borrow.Author.Tests.{eqb-true}
use Rattle.wave.specs.declared.kinds.Wave.{Wave}
use Rattle.wave.specs.Kinds.{A}
use Rattle.wave.specs.Count.{falls, top_of}
use Rattle.scene.specs.declared.state.Scene.{Scene}
use Rattle.scene.specs.Scene.{scene_of}
use Rattle.counter.specs.declared.state.Timer.{Timer}
use Rattle.counter.specs.Modes.{mode_of, wave_of}
use Rattle.counter.specs.Setting.{setting_at, setting_of}
use Rattle.held.specs.declared.state.Held.{Held}
use Rattle.held.specs.Held.{Kept}
use Rattle.renewing.specs.Stands.{top_in, down_in}

-- TOP is OCRnA, or no compare changes it
top-follows : (w : Wave) (a : ℕ) → eqb w.source A ≡ true → a ≡ top_of w a
unfolding top_of
top-follows w a e = rw (eqb-true w.source A e) refl

top_apart : (w : Wave) (a b : ℕ) → eqb w.source A ≡ false → top_of w a ≡ top_of w b
unfolding top_of
top_apart w a b e = rw e refl

module _ (h : Held) (k : Kept h) (u : Timer) (e : scene_of (setting_of u) ≡ h.scene) (s : (x : ℕ) → top_of (wave_of u (mode_of u)) x ≡ top_of (wave_of h.timer (mode_of h.timer)) x) where
  abbrev w : Wave
  w = wave_of u (mode_of u)

  follows_is : eqb w.source A ≡ h.scene.follows
  unfolding scene_of setting_at
  follows_is = ap (λ (x : Scene). x.follows) e

  pub top-stands : top_in h.scene.follows h.top u.ocr ≡ top_of (wave_of u (mode_of u)) (get_or u.ocr 0 0)
  top-stands = rw (← follows_is) (go (eqb w.source A) refl)
    where
      go : (b : Bool) → eqb w.source A ≡ b → cond b (get_or u.ocr 0 0) h.top ≡ top_of w (get_or u.ocr 0 0)
      go true q = top-follows w (get_or u.ocr 0 0) q
      go false q = k.top ∙ sym (s (get_or h.timer.ocr 0 0)) ∙ top_apart w (get_or h.timer.ocr 0 0) (get_or u.ocr 0 0) q

  pub down-stands : down_in h.scene.kind u.counter ≡ falls (wave_of u (mode_of u)) u.counter
  unfolding scene_of setting_at falls
  down-stands = ap (λ (x : Scene). down_in x.kind u.counter) (sym e)
