-- An advance of a held timer whose scene stands: what is kept of it, and the answer that its work tells.
use Prim.Native.Nat.{ℕ, ◌≤◌, ◌<◌, ◌^◌}
use mathlib.Core.Bool.{Bool, true, false}
use mathlib.Core.List.{List}
use mathlib.Core.Path.{◌≡◌, refl, sym, ap, subst, ◌∙◌}
use lib.ListN.{length, get_or}
use Rattle.wave.specs.Count.{falls, top_of}
use Rattle.tick.specs.declared.setting.Moving.{Moving}
use Rattle.scene.specs.Scene.{scene_of}
use Rattle.passage.specs.Passage.{ticks}
use Rattle.counter.specs.declared.advance.Advanced.{Advanced}
use Rattle.counter.specs.declared.advance.Work.{Work}
use Rattle.counter.specs.declared.state.Timer.{Timer}
use Rattle.counter.specs.Modes.{mode_of, wave_of}
use Rattle.counter.specs.Passage.{advanced, sync_to, Works, Advances}
use Rattle.counter.specs.Setting.{setting_at, setting_of, moving_of, settle}
use Rattle.counter.specs.Valid.{Valid}
use Rattle.counter.proofs.Advances.{advances}
use Rattle.answers.specs.Refusals.{late}
use Rattle.timer.specs.declared.calls.Call.TheVariants as call
use Rattle.timer.specs.Calls.{answered, asks, refusal_of}
use Rattle.timer.proofs.Accepted.{call-accepted}
use Rattle.timer.proofs.Outcomes.{late-alone, stopped, came}
use Rattle.held.specs.declared.reply.Reply.{Reply}
use Rattle.held.specs.declared.state.Ahead.{Ahead}
use Rattle.held.specs.declared.state.Held.{Held}
use Rattle.held.specs.Held.{Kept, Foresees}
use Rattle.held.specs.Reply.{replied, Serves}
use Rattle.held.proofs.Answers.{told-serves, turned-serves}
use Rattle.renewing.specs.declared.onward.Went.{Went}
use Rattle.renewing.specs.Onward.{went_in}
use Rattle.renewing.specs.Stands.{top_in, down_in}
use Rattle.renewing.proofs.Standing.{top-stands, down-stands}

-- the cycle alone can turn an advance away
number_is : (t : Timer) (cycle : ℕ) {n : ℕ} → n ≡ late t cycle → refusal_of t call.Advance cycle ≡ n
unfolding refusal_of asks
number_is t cycle e = late-alone t cycle ∙ sym e

-- turned away, and so nothing moves
pub late-serves : (h : Held) (cycle : ℕ) (area : List ℕ) {n : ℕ} {m : Moving} {r : Reply} → Kept h → n ≡ late h.timer cycle → (n ≡ 0 → ⊥) → m ≡ moving_of h.timer → r ≡ replied n 5 0 0 0 0
    → Serves (answered ticks h.timer call.Advance cycle area) (went_in h (record { moving = m; clock = h.timer.clock; next = h.next; top = h.top; flags = h.flags; shift = h.shift; down = h.down; reply = r })) r area
late-serves h cycle area {n} k e z em er = rw (em, er) (turned-serves h call.Advance cycle n k (number_is h.timer cycle e) z area)

-- ---- the cycle is accepted: w is the advance's work, and u the timer that it leaves
module _ (h : Held) (cycle : ℕ) {n : ℕ} (k : Kept h) (e : n ≡ late h.timer cycle) (z : n ≡ 0) where
  abbrev t : Timer
  t = h.timer

  pub work-asks : (Valid t) × (t.clock.latest.0 ≤ cycle) × (cycle < 2 ^ 62)
  work-asks = let a = call-accepted t call.Advance cycle (number_is t cycle e ∙ z) in (k.valid, a.latest, a.most)

  module _ (area : List ℕ) {w : Work} {s u : Timer} {past : List ℕ} (g : Works t (advanced ticks t cycle (length area)) area w past) (es : s ≡ settle t w.moving) (eu : u ≡ sync_to s w.sync.0) where
    abbrev gone : Advanced
    gone = record { timer = u; written = w.written; paused = w.paused }

    gone-is : Advances (advanced ticks t cycle (length area)) area gone past
    gone-is = advances t cycle work-asks g es eu

    u-is : u ≡ sync_to (settle t w.moving) w.sync.0
    u-is = eu ∙ ap (λ (x : Timer). sync_to x w.sync.0) es

    -- the setting stands
    scene_on : scene_of (setting_of u) ≡ h.scene
    unfolding setting_at mode_of wave_of sync_to
    scene_on = rw u-is (sym k.scene)

    top-on : (x : ℕ) → top_of (wave_of u (mode_of u)) x ≡ top_of (wave_of t (mode_of t)) x
    unfolding mode_of wave_of sync_to
    top-on x = rw u-is refl

    ocr-is : u.ocr ≡ w.moving.ocr
    unfolding sync_to
    ocr-is = rw u-is refl

    counter-is : u.counter ≡ w.moving.counter
    unfolding sync_to
    counter-is = rw u-is refl

    sync-is : u.clock.sync.0 ≡ w.sync.0
    unfolding sync_to
    sync-is = rw u-is refl

    module _ {top : ℕ} {down : Bool} (et : top ≡ top_in h.scene.follows h.top w.moving.ocr) (ed : down ≡ down_in h.scene.kind w.moving.counter) where
      top-is : top ≡ top_of (wave_of u (mode_of u)) (get_or u.ocr 0 0)
      top-is = et ∙ ap (top_in h.scene.follows h.top) (sym ocr-is) ∙ top-stands h k u scene_on top-on

      down_is : down ≡ falls (wave_of u (mode_of u)) u.counter
      down_is = ed ∙ ap (down_in h.scene.kind) (sym counter-is) ∙ down-stands h k u scene_on top-on

      pub foreseen-asks : (Valid u) × (h.scene ≡ scene_of (setting_of u)) × (top ≡ top_of (wave_of u (mode_of u)) (get_or u.ocr 0 0)) × (down ≡ falls (wave_of u (mode_of u)) u.counter)
      foreseen-asks = (gone-is.valid, sym scene_on, top-is, down_is)

      module _ {a : Ahead} (f : Foresees u a) (r : Reply) where
        abbrev went : Went
        went = record { moving = w.moving; clock = u.clock; next = a.next; top = top; flags = a.flags; shift = a.shift; down = down; reply = r }

        -- the parts put back are those of the timer that it leaves
        timer-is : (went_in h went).timer ≡ u
        unfolding sync_to
        timer-is = rw u-is refl

        went-kept : Kept (went_in h went)
        went-kept =
            let p : went_in h went ≡ record { timer = u; scene = h.scene; next = a.next; top = top; flags = a.flags; shift = a.shift; down = down } =
            ap (λ (x : Timer). record { timer = x; scene = h.scene; next = a.next; top = top; flags = a.flags; shift = a.shift; down = down }) timer-is in
            subst Kept (sym p) (record { valid = gone-is.valid; next = f.next; flags = f.flags; shift = f.shift; idle = f.idle; small = f.small; down = down_is; scene = sym scene_on; top = top-is })

        -- it stopped before a tick whose records do not fit, or came to its cycle
        pub stop-serves : w.paused ≡ true → r ≡ replied 0 4 w.sync.0 w.written a.next a.flags → Serves (answered ticks t call.Advance cycle area) (went_in h went) r past
        stop-serves p er = told-serves (stopped t cycle area k.valid e z gone-is refl p) timer-is went-kept (er ∙ ap (λ (x : ℕ). replied 0 4 x w.written a.next a.flags) (sym sync-is))

        pub come-serves : w.paused ≡ false → r ≡ replied 0 6 0 w.written a.next a.flags → Serves (answered ticks t call.Advance cycle area) (went_in h went) r past
        come-serves p er = told-serves (came t cycle area k.valid e z gone-is refl p) timer-is went-kept er
