-- Before the announced next event a tick only steps the count, adds one to the odometer and lifts a blocked match.
use Prim.Native.Nat.{ℕ, suc, ◌+◌, ◌<◌}
use native.Mathlib.Omega.{arith}
use mathlib.Core.Path.{◌≡◌, refl, sym, ap, ◌∙◌}
use mathlib.Core.Bool.{Bool, true, false, cond, and-false}
use mathlib.Core.List.{List}
use lib.Dec.{eqb, leb, leb-zero}
use borrow.Author.Tests.{leb-true, leb-false}
use Rattle.records.specs.Records.{records_of}
use Rattle.counter.specs.declared.next.Next.{Next}
use Rattle.counter.specs.declared.next.Next.TheVariants.{At, Never}
use Rattle.counter.specs.declared.state.Timer.{Timer}
use Rattle.time.specs.declared.units.Cycle.{Cycle}
use Rattle.wave.specs.declared.kinds.Wave.{Wave}
use Rattle.wave.specs.Distance.{gap, moved}
use Rattle.time.specs.Units.{ticks_at}
use Rattle.time.proofs.Clocks.{cycle-mono}
use Rattle.counter.specs.Modes.{mode_of, wave_of, prescaler_of, running_of}
use Rattle.counter.specs.Next.{next_at, next_of}
use Rattle.tick.specs.declared.setting.Moving.{Moving}
use Rattle.tick.specs.Skip.{linear}
use Rattle.tick.specs.Distance.{flags_ahead}
use Rattle.counter.specs.Setting.{setting_at, setting_of, moving_of}
use Rattle.passage.specs.Passage.{Run, ticks, quiet as quietRun}
use Rattle.passage.proofs.Runs.{quiet-ticks}
use Rattle.counter.specs.Passage.{start}
use Rattle.counter.specs.Valid.{Valid}
use Rattle.counter.proofs.Bounds.{valid-sound}
use Rattle.tick.proofs.Still.{tick-still, still-at}
use Rattle.answers.specs.Answers.{event, turned}
use Rattle.timer.specs.declared.calls.Call.TheVariants as call
use Rattle.timer.specs.Calls.{asks, works, says, before, worked, performed, refusal_of, answered}
use Rattle.timer.specs.Claims.{told, tick_cycle, plain_after, stepped_on, QuietOf, Quiet}
use Rattle.counter.proofs.Keeps.{fresh-is-valid}
use Rattle.timer.proofs.Keeps.{last-valid}

-- what next answers is the timer's next event
says-next : (t : Timer) (cycle : ℕ) (area : List ℕ) → (performed ticks t call.Next cycle area).values ≡ event (next_of t)
unfolding performed asks before worked works says records_of
says-next t cycle area = simp leb-zero

pub next-told : (t : Timer) (cycle : ℕ) (area : List ℕ) {m : Next} → (told ticks t (record { call = call.Next; cycle = cycle; area = area })).values ≡ event m → m ≡ next_of t
unfolding answered
next-told t cycle area {m} h = go (eqb (refusal_of t call.Next cycle) 0) h
  where
    go : (b : Bool) → (cond b (performed ticks t call.Next cycle area) (turned (refusal_of t call.Next cycle) t area)).values ≡ event m → m ≡ next_of t
    go true e = let z = sym (says-next t cycle area) ∙ e in cc
    go false e = absurd (let z : ◌≡◌ {A = ℕ} 0 1 = cc in omega arith)

-- of a counter that runs, at a cycle and with flags
pub record Announces (t : Timer) (at : Cycle) (flags : ℕ) : Type 0 where
  pub running : running_of t ≡ true
  pub cycle : at.0 ≡ next_at t
  pub raised : flags ≡ flags_ahead (setting_of t) (moving_of t)

pub announces : (t : Timer) {at : Cycle} {flags : ℕ} → At at flags ≡ next_of t → Announces t at flags
unfolding next_of
announces t {at} {flags} h = go (running_of t) refl h
  where
    go : (b : Bool) → running_of t ≡ b → At at flags ≡ cond b (At (record { 0 = next_at t }) (flags_ahead (setting_of t) (moving_of t))) Never → Announces t at flags
    go true r e =
        let z : at ≡ record { 0 = next_at t } = cc in
        let f : flags ≡ flags_ahead (setting_of t) (moving_of t) = cc in
        record { running = r; cycle = rw z; raised = f }
    go false r e = absurd (let z : ◌≡◌ {A = ℕ} 0 1 = cc in omega arith)

-- a tick before that cycle is one of the quiet ones
below : (t : Timer) (n : ℕ) → tick_cycle t (suc n) < next_at t → n < gap (wave_of t (mode_of t)) t.counter t.ocr
unfolding next_at
below t n h = go (leb g n) refl
  where
    g : ℕ
    g = gap (wave_of t (mode_of t)) t.counter t.ocr

    go : (b : Bool) → leb g n ≡ b → n < g
    go true e =
        let k = leb-true g n e in
        let m = cycle-mono (prescaler_of t) (ticks_at (prescaler_of t) t.clock.sync.0 + (g + 1)) (ticks_at (prescaler_of t) t.clock.sync.0 + suc n) (omega arith) in
        absurd (omega arith)
    go false e = leb-false g n e

-- one linear step
step-on : (w : Wave) (m : Moving) → linear w 1 m ≡ stepped_on w m
unfolding linear moved
step-on w m = simp and-false

pub quiet_of : (t : Timer) → Valid t → QuietOf t
unfolding setting_at start quietRun
quiet_of t v cycle area at flags n h l =
    let s = valid-sound t v in
    let w : Wave = wave_of t (mode_of t) in
    let g = below t n (rw (announces t (next-told t cycle area h)).cycle at l) in
    let e : plain_after t n ≡ linear w n (moving_of t)
    = ap (λ (r : Run). r.moving) (quiet-ticks (setting_of t) (prescaler_of t) (λ k. true) n (start t) (record { sound = s; fit = refl }) refl (omega arith)) in
    rw e (tick-still (setting_of t) _ (still-at w (moving_of t) s.steady n g) ∙ rw (step-on w (linear w n (moving_of t))))

pub quiet : Quiet
quiet c e qs = quiet_of _ (last-valid _ qs (fresh-is-valid c e))
