-- Each valid timer can be held: the shift of its divisor.
use Prim.Native.Nat.{ℕ, zero, suc, ◌+◌, ◌-◌, ◌<◌, ◌≤◌, ◌^◌}
use native.Mathlib.Omega.{arith}
use mathlib.Core.Path.{◌≡◌, refl, ap, ◌∙◌}
use mathlib.Core.Bool.{Bool, true, false, cond}
use mathlib.Core.Logic.{◌⊎◌, inl, inr, ⊎_elim}
use lib.Dec.{eqb, leb}
use lib.ListN.{get_or}
use Rattle.tick.proofs.Choices.{cond-le, cond-all}
use Rattle.counter.specs.declared.state.Timer.{Timer}
use Rattle.counter.specs.Modes.{cs_sync, cs_timer2, divisor_at, divisor_of, running_of}
use Rattle.counter.specs.Modes.{mode_of, wave_of, prescaler_of}
use Rattle.counter.proofs.Bounds.{valid-sound}
use Rattle.tick.proofs.Bounds.{gap-max, top-max}
use Rattle.wave.specs.Distance.{gap}
use native.Mathlib.Nat.{div-le_self}
use Rattle.counter.specs.Next.{next_at, next_of}
use Rattle.counter.specs.Setting.{setting_at, setting_of, moving_of}
use Rattle.counter.specs.Valid.{Valid}
use Rattle.counter.proofs.Clocks.{running-divides, next_fits}
use Rattle.coming.specs.declared.Nearest.{Nearest}
use Rattle.coming.specs.Coming.{Within, coming_of}
use Rattle.coming.proofs.Laws.{coming-is}
use Rattle.scene.specs.declared.state.Scene.{Scene}
use Rattle.scene.specs.Scene.{Apart, scene_of}
use Rattle.scene.proofs.Flags.{apart_of}
use Rattle.tick.specs.Distance.{flags_ahead}
use Rattle.tick.specs.Setting.{channel_of}
use Rattle.tick.specs.Skip.{distance}
use Rattle.wave.specs.Count.{falls, top_of}
use Rattle.time.specs.declared.units.Prescaler.{Prescaler}
use Rattle.time.specs.declared.units.Ticks.{Ticks}
use Rattle.time.specs.Units.{ticks_at, cycle_at}
use Rattle.held.specs.Held.{code_of, flags_in, never, shift_at}

abbrev Powered : ℕ → Type 0
Powered d = (d ≡ 0) ⊎ (d ≡ 2 ^ shift_at d true)

-- a clock that is a divisor, else 0
abbrev whole : ℕ → ℕ
whole d = cond (leb d 1024) d 0

sync-powered : (s : ℕ) → Powered (whole (get_or cs_sync s 0))
unfolding shift_at
sync-powered zero = inl refl
sync-powered (suc zero) = inr refl
sync-powered (suc (suc zero)) = inr refl
sync-powered (suc (suc (suc zero))) = inr refl
sync-powered (suc (suc (suc (suc zero)))) = inr refl
sync-powered (suc (suc (suc (suc (suc zero))))) = inr refl
sync-powered (suc (suc (suc (suc (suc (suc zero)))))) = inl refl
sync-powered (suc (suc (suc (suc (suc (suc (suc zero))))))) = inl refl
sync-powered (suc (suc (suc (suc (suc (suc (suc (suc s)))))))) = inl refl

timer2-powered : (s : ℕ) → Powered (whole (get_or cs_timer2 s 0))
unfolding shift_at
timer2-powered zero = inl refl
timer2-powered (suc zero) = inr refl
timer2-powered (suc (suc zero)) = inr refl
timer2-powered (suc (suc (suc zero))) = inr refl
timer2-powered (suc (suc (suc (suc zero)))) = inr refl
timer2-powered (suc (suc (suc (suc (suc zero))))) = inr refl
timer2-powered (suc (suc (suc (suc (suc (suc zero)))))) = inr refl
timer2-powered (suc (suc (suc (suc (suc (suc (suc zero))))))) = inr refl
timer2-powered (suc (suc (suc (suc (suc (suc (suc (suc s)))))))) = inl refl

powered : (clocks select : ℕ) → Powered (divisor_at clocks select)
unfolding divisor_at
powered clocks select = cond-all (λ d. Powered (whole d)) (eqb clocks 0) (sync-powered select) (timer2-powered select)

pub shift_is : (t : Timer) {s : ℕ} → s ≡ shift_at (divisor_of t) (running_of t) → running_of t ≡ true → divisor_of t ≡ 2 ^ s
unfolding divisor_of
shift_is t {s} q e = ⊎_elim (λ z. let l = running-divides t e in absurd (none z l)) (λ z. z ∙ rw (q, e) refl) (powered _ _)
  where
    none : divisor_of t ≡ 0 → 0 < divisor_of t → ⊥
    none z l = omega arith

pub shift-idle : (t : Timer) {s : ℕ} → s ≡ shift_at (divisor_of t) (running_of t) → running_of t ≡ false → s ≡ 63
unfolding shift_at
shift-idle t q e = q ∙ rw e refl

shift-upto : (d : ℕ) (b : Bool) → shift_at d b ≤ 63
unfolding shift_at
shift-upto d true = cond-le (eqb d 8) (omega arith) (cond-le (eqb d 32) (omega arith) (cond-le (eqb d 64) (omega arith) (cond-le (eqb d 128) (omega arith) (cond-le (eqb d 256) (omega arith) (cond-le (eqb d 1024) (omega arith) (omega arith))))))
shift-upto d false = omega arith

pub shift_small : (d : ℕ) (b : Bool) → shift_at d b < 64
shift_small d b = let l = shift-upto d b in omega arith

-- ---- the next event, from the scene
-- the flags of a timer's setting are apart
apart : (t : Timer) → Valid t → Apart (setting_of t)
unfolding setting_at wave_of channel_of
apart t v = apart_of t.config (setting_of t) v.accepted (record { tov = refl; a = refl; b = refl; c = refl; icf = refl; has-a = refl; has-b = refl; has-c = refl; capture = refl })

-- what `foreseen` is given of a timer
pub record Given (t : Timer) (s : Scene) (m : ℕ) (d : Bool) : Type 0 where
  pub valid : Valid t
  pub scene : s ≡ scene_of (setting_of t)
  pub top : m ≡ top_of (wave_of t (mode_of t)) (get_or t.ocr 0 0)
  pub down : d ≡ falls (wave_of t (mode_of t)) t.counter

module _ {t : Timer} {scene : Scene} {top : ℕ} {down : Bool} (g : Given t scene top down) where
  pub given-within : Within scene t.counter top
  unfolding setting_at scene_of
  given-within =
      let y = (valid-sound t g.valid).steady in
      rw (g.scene, g.top) (record { count = y.count; under = top-max (wave_of t (mode_of t)) (moving_of t) y; most = y.most })

  pub given-sees : {e : Nearest} → e ≡ coming_of scene down t.counter top t.ocr → e ≡ record { ticks = distance (wave_of t (mode_of t)) (moving_of t); flags = flags_ahead (setting_of t) (moving_of t) }
  unfolding setting_at
  given-sees e = e ∙ rw (g.scene, g.top, g.down) (coming-is (setting_of t) (moving_of t) (apart t g.valid))

-- what was found of a timer that runs
pub record Found (t : Timer) (p : Prescaler) (last : Ticks) (e : Nearest) : Type 0 where
  pub clock : p ≡ prescaler_of t
  pub tick : last.0 ≡ ticks_at p t.clock.sync.0
  pub ahead : e ≡ record { ticks = distance (wave_of t (mode_of t)) (moving_of t); flags = flags_ahead (setting_of t) (moving_of t) }

module _ {t : Timer} {p : Prescaler} {last : Ticks} {d : Nearest} (f : Found t p last d) (v : Valid t) where
  found_at : cycle_at p (last.0 + d.ticks) ≡ next_at t
  unfolding next_at setting_at
  found_at = rw (f.tick, f.ahead, f.clock) refl

  pub found-cycle : cycle_at p (last.0 + d.ticks) < 2 ^ 64
  unfolding setting_at
  found-cycle = rw (f.tick, f.ahead, f.clock) fits
    where
      fits : cycle_at (prescaler_of t) (ticks_at (prescaler_of t) t.clock.sync.0 + distance (setting_of t).wave (moving_of t)) < 2 ^ 64
      fits = next_fits t v

  pub found-tick : last.0 + d.ticks < 2 ^ 64
  unfolding ticks_at setting_at
  found-tick =
      let b = gap-max (wave_of t (mode_of t)) (moving_of t) (valid-sound t v).steady in
      let k = div-le_self (t.clock.sync.0 - p.origin.0) p.divisor in
      let e : d.ticks ≡ gap (wave_of t (mode_of t)) t.counter t.ocr + 1 = ap (λ (x : Nearest). x.ticks) f.ahead in
      let m = (valid-sound t v).steady.most in
      let l = f.tick in
      let s = v.sync in
      let n = v.latest in
      omega arith

  pub found-next : running_of t ≡ true → {n : ℕ} → n ≡ cycle_at p (last.0 + d.ticks) → n ≡ code_of (next_of t)
  unfolding code_of next_of
  found-next r e = e ∙ found_at ∙ rw r refl

  pub found-flags : running_of t ≡ true → d.flags ≡ flags_in (next_of t)
  unfolding flags_in next_of
  found-flags r = rw (r, f.ahead) refl

-- and of one that does not
pub none-next : (t : Timer) → running_of t ≡ false → never ≡ code_of (next_of t)
unfolding code_of next_of
none-next t r = rw r refl

pub none-flags : (t : Timer) → running_of t ≡ false → 0 ≡ flags_in (next_of t)
unfolding flags_in next_of
none-flags t r = rw r refl
