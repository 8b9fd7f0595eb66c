-- A reset of a held timer: what is kept of it, and the answer that its work tells.
use Prim.Native.Nat.{ℕ, ◌+◌, ◌≤◌}
use native.Mathlib.Omega.{arith}
use native.Mathlib.Nat.{zero-add}
use mathlib.Core.Path.{◌≡◌, refl, sym, ap, ◌∙◌}
use mathlib.Core.Bool.{Bool, true, false, cond, true≢false}
use mathlib.Core.List.{List}
use lib.Dec.{eqb, leb}
use lib.ListN.{length, take, get_or}
use lib.Seq.{sets, sets-eq}
use borrow.Author.Tests.{leb-true}
use Rattle.wave.specs.Kinds.{N, X}
use Rattle.wave.specs.Count.{falls, top_of}
use Rattle.tick.specs.Setting.{enabled_at, channel_of}
use Rattle.scene.specs.Scene.{scene_of}
use Rattle.passage.specs.Passage.{ticks}
use Rattle.counter.specs.declared.advance.Logged.{Logged}
use Rattle.counter.specs.declared.state.Timer.{Timer}
use Rattle.counter.specs.Halts.{latest_to, reset_at}
use Rattle.counter.specs.Logs.{Logs}
use Rattle.counter.specs.Modes.{mode_at, kind_at, source_at, fixed_at, max_at, toggles_at, divisor_at, mode_of, wave_of, divisor_of, running_of}
use Rattle.counter.specs.Registers.{driven}
use Rattle.counter.specs.Setting.{setting_at, setting_of}
use Rattle.counter.specs.Valid.{Valid}
use Rattle.answers.specs.declared.Answer.TheVariants as answer
use Rattle.answers.specs.declared.Outcome.{Outcome}
use Rattle.answers.specs.Answers.{Tells, Filed}
use Rattle.timer.specs.declared.calls.Call.TheVariants as call
use Rattle.timer.specs.Calls.{answered, asks, works, says}
use Rattle.timer.proofs.Outcomes.{Ready, at_once, filed}
use Rattle.held.specs.declared.state.Held.{Held}
use Rattle.held.specs.Held.{Kept}
use Rattle.held.specs.Quick.{refusing}
use Rattle.held.proofs.Answers.{Timed, refusal_is, told-serves}
use Rattle.held.proofs.Holds.{none-next, none-flags}
use Rattle.renewing.specs.declared.resets.Reset.{Reset}
use Rattle.renewing.specs.Resets.{cleared_of, reset_in, Resets}

-- ---- clear registers, by width: mode 0 is N, and its TOP is MAX
mode-clear : (wide : Bool) → mode_at wide 0 0 ≡ 0
unfolding mode_at
mode-clear true = refl
mode-clear false = refl

kind-clear : (wide : Bool) → kind_at wide 0 ≡ N
unfolding kind_at
kind-clear true = refl
kind-clear false = refl

source_clear : (wide : Bool) → source_at wide 0 ≡ X
unfolding source_at
source_clear true = refl
source_clear false = refl

fixed-clear : (wide : Bool) → fixed_at wide 0 ≡ max_at wide
unfolding fixed_at max_at
fixed-clear true = refl
fixed-clear false = refl

toggles-clear : (wide : Bool) → toggles_at wide 0 ≡ false
unfolding toggles_at
toggles-clear true = refl
toggles-clear false = refl

-- select 0 is no clock in either table
divisor-clear : (clocks : ℕ) → divisor_at clocks 0 ≡ 0
unfolding divisor_at
divisor-clear clocks = go (eqb clocks 0)
  where
    go : (b : Bool) → ◌≡◌ {A = ℕ} (cond (leb (cond b 0 0) 1024) (cond b 0 0) 0) 0
    go true = refl
    go false = refl

-- ---- the timer after a reset
module _ (t : Timer) (cycle : ℕ) where
  abbrev renewed : Timer
  renewed = latest_to (reset_at t cycle).timer cycle

  mode-is : mode_of renewed ≡ 0
  unfolding mode_of reset_at driven
  mode-is = mode-clear t.config.wide

  stopped : running_of renewed ≡ false
  unfolding running_of divisor_of reset_at driven
  stopped = rw (divisor-clear t.config.clocks) refl

  -- it counts up
  rises : falls (wave_of renewed (mode_of renewed)) renewed.counter ≡ false
  unfolding falls wave_of reset_at driven
  rises = rw (mode-is, kind-clear t.config.wide) refl

  top-is : top_of (wave_of renewed (mode_of renewed)) (get_or renewed.ocr 0 0) ≡ max_at t.config.wide
  unfolding top_of wave_of reset_at driven
  top-is = rw (mode-is, source_clear t.config.wide) (fixed-clear t.config.wide)

  -- its scene is the one before without mode and outputs
  scene-is : cleared_of (scene_of (setting_of t)) t.config ≡ scene_of (setting_of renewed)
  unfolding cleared_of scene_of setting_at wave_of channel_of enabled_at reset_at driven
  scene-is = simp (mode-is, kind-clear t.config.wide, source_clear t.config.wide, toggles-clear t.config.wide)

-- ---- what is kept, and the answer
module _ (h : Held) (cycle : ℕ) (k : Kept h) where
  abbrev t : Timer
  t = h.timer

  max-is : (cleared_of h.scene t.config).max ≡ max_at t.config.wide
  unfolding cleared_of scene_of setting_at wave_of
  max-is = rw k.scene refl

  reset-kept : Valid (renewed t cycle) → (r : Reset) → r.timer ≡ renewed t cycle → r.scene ≡ cleared_of h.scene t.config → Kept (reset_in r)
  reset-kept v r e s =
      rw (e, s)
      (record {
        valid = v;
        next = none-next (renewed t cycle) (stopped t cycle);
        flags = none-flags (renewed t cycle) (stopped t cycle);
        shift = λ z. absurd (true≢false (sym z ∙ stopped t cycle));
        idle = λ _. refl;
        small = omega arith;
        down = sym (rises t cycle);
        scene = rw k.scene (scene-is t cycle);
        top = max-is ∙ sym (top-is t cycle);
      })

  module _ (a : refusing false t.clock.latest.0 h.next cycle ≡ 0) (area : List ℕ) where
    -- a reset is tested for its cycle alone
    timed : Timed t call.Reset false
    unfolding asks
    timed = record { absent = refl; wrong = refl; halted = refl; tests = refl }

    ready : Ready t call.Reset cycle area t
    unfolding asks
    ready = at_once t call.Reset cycle area k.valid refl (refusal_is h call.Reset cycle k timed ∙ a) refl refl

    module _ {l : Logged} {wrote : Bool} {after : List ℕ} (g : Logs (reset_at t cycle) cycle l)
        (q : (wrote ≡ leb (0 + l.log.len) (length area)) × (after ≡ cond wrote (sets area 0 (take l.log.len l.log.bytes)) area)) where
      fit : leb l.log.len (length area) ≡ wrote
      fit = rw (zero-add l.log.len) at (sym q.0)

      files : {r : Outcome} → Filed t l cycle area r after → Tells (answered ticks t call.Reset cycle area) r after
      unfolding works says
      files o = filed t call.Reset cycle area ready g refl o

      -- done where the records fit
      tells : wrote ≡ true → Tells (answered ticks t call.Reset cycle area) (record { answer = answer.Done; timer = latest_to l.timer cycle; written = l.log.len }) after
      tells d =
          let m : l.log.len ≤ length area = leb-true _ _ (fit ∙ d) in
          let n = g.size in
          let y = sets-eq (take l.log.len l.log.bytes) area 0 (omega arith) in
          files (record { outcome = rw (fit, d); area = rw (fit, d) (rw d at q.1 ∙ y ∙ rw (n, zero-add l.log.len)) })

      -- refused with 8 where they do not
      turns : wrote ≡ false → Tells (answered ticks t call.Reset cycle area) (record { answer = answer.Refused 8; timer = t; written = 0 }) after
      turns d = files (record { outcome = rw (fit, d) refl; area = rw (fit, d) (rw d at q.1) })

      pub reset-right : {r : Reset} → r.fits ≡ wrote → r.timer ≡ latest_to l.timer cycle → r.scene ≡ cleared_of h.scene t.config → r.written ≡ l.log.len
          → Resets h cycle area r after
      reset-right {r} f e s w =
          let u : latest_to l.timer cycle ≡ renewed t cycle = ap (λ (x : Timer). latest_to x cycle) g.timer in
          record {
            done = λ z. let p = tells (sym f ∙ z) in told-serves p e (reset-kept (rw u at p.valid) r (e ∙ u) s) (rw w refl);
            refused = λ z. told-serves (turns (sym f ∙ z)) refl k refl;
          }
