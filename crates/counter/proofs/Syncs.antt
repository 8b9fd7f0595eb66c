-- A sync: where no event lies at or before the cycle it is one linear step.
use Prim.Native.Nat.{ℕ, ◌-◌, ◌≤◌, ◌<◌, ◌^◌}
use native.Mathlib.Omega.{arith}
use mathlib.Core.Path.{◌≡◌, refl, sym, ap, ◌∙◌}
use mathlib.Core.Bool.{true, false}
use mathlib.Core.List.{[]}
use Rattle.wave.specs.declared.kinds.Wave.{Wave}
use Rattle.time.specs.declared.units.Prescaler.{Prescaler}
use Rattle.wave.specs.Distance.{gap}
use Rattle.tick.specs.declared.setting.Moving.{Moving}
use Rattle.tick.specs.Skip.{linear}
use Rattle.passage.specs.Passage.{ticks, quiet}
use Rattle.tick.proofs.Bounds.{gap-max}
use Rattle.tick.proofs.Still.{linear-none}
use Rattle.passage.proofs.Runs.{quiet-ticks}
use Rattle.counter.specs.declared.state.Timer.{Timer}
use Rattle.counter.specs.Modes.{mode_of, wave_of, running_of}
use Rattle.counter.specs.Setting.{setting_at, setting_of, moving_of, settle}
use Rattle.counter.specs.Passage.{Passed, due, start, sync_to, sync_of, passed, synced}
use Rattle.counter.specs.Valid.{Valid}
use Rattle.counter.proofs.Runs.{start-kept}
use Rattle.counter.proofs.Lasting.{due-keeps}
use Rattle.counter.proofs.Advances.{Begun, begun-steady}

-- what sync asks
abbrev pub Quiet : Timer → ℕ → Type 0
Quiet t cycle = (Valid t) × (t.clock.latest.0 ≤ cycle) × (cycle < 2 ^ 62) × (due t cycle ≤ gap (wave_of t (mode_of t)) t.counter t.ocr)

-- and what it promises
abbrev pub Syncs : Timer → ℕ → Timer → Type 0
Syncs t cycle r = (r ≡ (synced ticks t cycle).timer) × ((synced ticks t cycle).bytes ≡ []) × Valid r

syncs : (t : Timer) (cycle : ℕ) {r : Timer} → Quiet t cycle → r ≡ sync_to (settle t (linear (wave_of t (mode_of t)) (due t cycle) (moving_of t))) cycle → Syncs t cycle r
unfolding synced passed quiet start sync_of setting_at
syncs t cycle {r} v er =
    let q : synced ticks t cycle ≡ passed t cycle (quiet (setting_of t) (due t cycle) (start t))
    = ap (passed t cycle) (quiet-ticks _ _ _ _ _ (start-kept (λ k. true) t v.0 refl) refl v.3) in
    let e : r ≡ (synced ticks t cycle).timer = er ∙ sym (ap (λ (x : Passed). x.timer) q) in
    (e, ap (λ (x : Passed). x.bytes) q, rw e (due-keeps t cycle (λ k. true) v.0 v.1 v.2 refl))

-- the counter stands
pub syncs-idle : (t : Timer) (cycle : ℕ) {r : Timer} → Quiet t cycle → running_of t ≡ false → r ≡ sync_to t cycle → Syncs t cycle r
unfolding due
syncs-idle t cycle v e er =
    let z : due t cycle ≡ 0 = rw e in
    syncs t cycle v (er ∙ rw (z, linear-none (wave_of t (mode_of t)) (moving_of t) v.0.odometer))

-- it runs
module _ {t : Timer} {cycle : ℕ} {p : Prescaler} {w : Wave} {m : Moving} {g a e : ℕ} (x : Begun t cycle p w m g a e) (q : Quiet t cycle) where
  begun-due : due t cycle ≡ e - a
  unfolding due
  begun-due = rw (x.runs, x.first, x.last, x.prescaler)

  pub due-quiet : e - a ≤ gap w m.counter m.ocr
  due-quiet = rw (x.wave, x.moving, ← begun-due) q.3

  pub due-small : e - a < 65536
  due-small = let y = begun-steady x in let k = gap-max w m y in let l = y.most in let h = due-quiet in omega arith

  pub syncs-quiet : {near : Moving} {r s : Timer} → near ≡ linear w (e - a) m → s ≡ settle t near → r ≡ sync_to s cycle → Syncs t cycle r
  syncs-quiet en es er = syncs t cycle q (er ∙ rw (es, en, ← begun-due, x.wave, x.moving))
