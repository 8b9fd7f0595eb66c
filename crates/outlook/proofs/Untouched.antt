-- The own work of a call that touches nothing of the next event leaves it.
use Prim.Native.Nat.{ℕ, ◌+◌, ◌≤◌, ◌<◌, ◌/◌, ◌%◌}
use native.Mathlib.Omega.{arith}
use mathlib.Core.Path.{◌≡◌, refl, sym, ◌∙◌}
use mathlib.Core.Bool.{Bool, true, false, cond, not, ◌&&◌, ◌||◌, and-false, true≢false, false≢true}
use mathlib.Core.List.{List}
use lib.Dec.{eqb, leb, ltb}
use lib.ListN.{get_or}
use borrow.Author.Tests.{ne_eqb, eqb-false, leb-true, ltb-true}
use Rattle.wave.specs.declared.count.Counter.{Counter}
use Rattle.wave.specs.declared.kinds.Wave.{Wave}
use Rattle.wave.specs.Kinds.{X, A, I}
use Rattle.wave.specs.Count.{falls, top_of, at_top, at_zero, overflows, loads}
use Rattle.wave.specs.Distance.{space, gap_at, gap}
use Rattle.time.specs.Units.{ticks_at, cycle_at}
use Rattle.tick.specs.Distance.{flags_ahead}
use Rattle.tick.specs.Skip.{linear}
use Rattle.tick.specs.Tick.{events_at, raised}
use Rattle.tick.proofs.Choices.{and_left, cond-case, cond-all}
use Rattle.counter.specs.declared.state.Timer.{Timer}
use Rattle.counter.specs.Capture.{captures, captured, ticks_on}
use Rattle.counter.specs.Halts.{latest_to, routed_to}
use Rattle.counter.specs.Logs.{Noted}
use Rattle.counter.specs.Modes.{falling, rising, source_at, clock_at, divisor_at, chosen, mode_of, wave_of, divisor_of, prescaler_of, held_of, running_of}
use Rattle.counter.specs.Next.{next_at}
use Rattle.counter.proofs.Bounds.{source-max}
use Rattle.counter.specs.Registers.{read_timer}
use Rattle.counter.specs.Setting.{setting_at, setting_of, moving_of}
use Rattle.timer.specs.declared.calls.Call.{Call}
use Rattle.timer.specs.declared.calls.Call.TheVariants as call
use Rattle.timer.specs.Calls.{placed, is_pin, edge_captures, edge_ticks, output_captures, works}
use Rattle.timer.proofs.Outcomes.{reducing, changing, prescaling, stays}
use Rattle.outlook.specs.Announced.{touches}
use Rattle.outlook.proofs.Same.{Same}

-- ---- tests
pub and_right : (a b : Bool) → a && b ≡ true → b ≡ true
and_right true b e = e
and_right false b e = absurd (false≢true e)

pub middle : (a b c : Bool) → a && b && c ≡ true → b ≡ true
middle a b c e = and_right a b (and_left (a && b) c e)

not-true : (b : Bool) → not b ≡ true → b ≡ false
not-true true e = sym e
not-true false e = refl

none-held : (a b c : Bool) → not (a || b || c) ≡ true → a ≡ false
none-held true b c e = sym e
none-held false b c e = refl

-- ---- a capture moves ICR, which is not TOP
module _ (w : Wave) (icr : ℕ) (most : w.source ≤ I) (other : eqb w.source I ≡ false) where
  abbrev moved-icr : Wave
  moved-icr = record { kind = w.kind; source = w.source; fixed = w.fixed; max = w.max; icr = icr; a = w.a; b = w.b; c = w.c }

  pub top-icr : (a : ℕ) → top_of moved-icr a ≡ top_of w a
  unfolding top_of
  top-icr a = go (eqb w.source X) refl (eqb w.source A) refl
    where
      go : (b : Bool) → eqb w.source X ≡ b → (d : Bool) → eqb w.source A ≡ d → cond b w.fixed (cond d a icr) ≡ cond b w.fixed (cond d a w.icr)
      go true p d q = refl
      go false p true q = refl
      go false p false q = absurd (omega (arith, eqb-false w.source I other, eqb-false w.source X p, eqb-false w.source A q))

  pub gap-icr : (c : Counter) (ocr : List ℕ) → gap moved-icr c ocr ≡ gap w c ocr
  unfolding gap gap_at falls
  gap-icr c ocr = λ j. gap_at w (falls w c) c.count ocr (space (falls w c) c.count (top-icr (get_or ocr 0 0) j) w.max)

pub other-top : (t : Timer) (level : ℕ) → captures t level ≡ true → eqb (source_at t.config.wide (mode_of t)) I ≡ false
unfolding captures
other-top t level h = not-true (eqb (source_at t.config.wide (mode_of t)) I) (middle t.config.icr.present _ (eqb level (t.registers.tccrb / 64 % 2)) h)

captured-same : (t : Timer) (cycle level : ℕ) → captures t level ≡ true → Same t (latest_to (captured t).timer cycle)
unfolding captured next_at running_of divisor_of held_of setting_at wave_of mode_of flags_ahead linear events_at raised falls at_top at_zero overflows loads
captured-same t cycle level h =
    let o = other-top t level h in
    let l = source-max t.config.wide (mode_of t) in
    record {
      running = refl;
      next = λ j. cycle_at (prescaler_of t) (ticks_at (prescaler_of t) t.clock.sync.0 + (gap-icr (wave_of t (mode_of t)) t.counter.count l o t.counter t.ocr j + 1));
      flags = λ j. raised (setting_of t) (events_at (setting_of t) (linear (wave_of t (mode_of t)) (gap-icr (wave_of t (mode_of t)) t.counter.count l o t.counter t.ocr j) (moving_of t)) (top-icr (wave_of t (mode_of t)) t.counter.count l o (get_or t.ocr 0 0) j));
    }

-- ---- a counter that runs has no T edge
no_edge : (clocks select level : ℕ) → 0 < divisor_at clocks select → chosen clocks select level ≡ false
unfolding chosen divisor_at
no_edge clocks select level h = go (leb (clock_at clocks select) 1024) refl h
  where
    go : (b : Bool) → leb (clock_at clocks select) 1024 ≡ b → 0 < cond b (clock_at clocks select) 0 → eqb (clock_at clocks select) falling && eqb level 0 || eqb (clock_at clocks select) rising && eqb level 1 ≡ false
    go true e k =
        let l = leb-true (clock_at clocks select) 1024 e in
        simp (ne_eqb (clock_at clocks select) falling (λ z. omega arith), ne_eqb (clock_at clocks select) rising (λ z. omega arith))
    go false e k = absurd (omega arith)

no-tick : (t : Timer) (pin level : ℕ) → running_of t ≡ true → edge_ticks t pin level ≡ false
unfolding edge_ticks ticks_on running_of divisor_of
no-tick t pin level r = simp (no_edge t.config.clocks (t.registers.tccrb % 8) level (ltb-true 0 (divisor_of t) (and_left _ _ r)), and-false)

awake : (t : Timer) → running_of t ≡ true → t.halts.asleep ≡ false
unfolding running_of held_of
awake t r = none-held t.halts.asleep t.halts.reduced t.halts.tsm (and_right (ltb 0 (divisor_of t)) (not (t.halts.asleep || t.halts.reduced || t.halts.tsm)) r)

-- ---- the calls
pub latest-same : (t : Timer) (cycle : ℕ) → Same t (latest_to t cycle)
unfolding next_at running_of divisor_of held_of setting_at wave_of mode_of
latest-same t cycle = record { running = refl; next = refl; flags = refl }

left-same : (t : Timer) (cycle : ℕ) {x : Timer} → t ≡ x → Same t (latest_to x cycle)
left-same t cycle e = rw (← e) (latest-same t cycle)

edge_same : (t : Timer) (pin level cycle : ℕ) → running_of t ≡ true → Same t (latest_to (works t (call.Edge pin level) cycle).timer cycle)
unfolding works edge_captures
edge_same t pin level cycle r =
    cond-case (λ (n : Noted). Same t (latest_to n.timer cycle)) (edge_captures t pin level) (λ e. captured-same t cycle level (and_right (is_pin t.config.icr.wire pin && not t.halts.routed) (captures t level) e))
    (λ e. rw (no-tick t pin level r) (latest-same t cycle))

output-same : (t : Timer) (level cycle : ℕ) → Same t (latest_to (works t (call.Output level) cycle).timer cycle)
unfolding works output_captures
output-same t level cycle =
    cond-case (λ (n : Noted). Same t (latest_to n.timer cycle)) (output_captures t level) (λ e. captured-same t cycle level (and_right t.halts.routed (captures t level) e)) (λ e. latest-same t cycle)

pub work-same : (t : Timer) (c : Call) (cycle : ℕ) → running_of t ≡ true → touches t c ≡ false → Same t (latest_to (works t c cycle).timer cycle)
unfolding touches works read_timer routed_to next_at running_of divisor_of held_of setting_at wave_of mode_of flags_ahead linear events_at raised
work-same t call.Advance cycle r h = latest-same t cycle
work-same t call.Next cycle r h = latest-same t cycle
work-same t (call.Read address) cycle r h =
    cond-all (λ (x : Timer). Same t (latest_to x cycle)) ((eqb (placed t address) 0 || eqb (placed t address) 8) && t.config.wide) (record { running = refl; next = refl; flags = refl }) (latest-same t cycle)
work-same t (call.Peek address) cycle r h = latest-same t cycle
work-same t (call.Write address value) cycle r h = absurd (true≢false h)
work-same t call.Tifr cycle r h = latest-same t cycle
work-same t call.Timsk cycle r h = latest-same t cycle
work-same t (call.WriteTifr ones) cycle r h = record { running = refl; next = refl; flags = refl }
work-same t (call.WriteTimsk mask) cycle r h = record { running = refl; next = refl; flags = refl }
work-same t (call.Edge pin level) cycle r h = edge_same t pin level cycle r
work-same t (call.Output level) cycle r h = output-same t level cycle
work-same t (call.Route level) cycle r h = cond-all (λ (x : Timer). Same t (latest_to x cycle)) t.config.icr.present (record { running = refl; next = refl; flags = refl }) (latest-same t cycle)
work-same t (call.Sleep mode) cycle r h = rw h (latest-same t cycle)
work-same t call.Wake cycle r h = cond-case (λ (x : Timer). Same t (latest_to x cycle)) t.halts.asleep (λ e. absurd (true≢false (sym e ∙ awake t r))) (λ e. latest-same t cycle)
work-same t (call.Reduce mask) cycle r h = left-same t cycle (stays (reducing t cycle mask) h)
work-same t (call.Tsm level) cycle r h = left-same t cycle (stays (changing t cycle level) h)
work-same t (call.Prescale mask) cycle r h = left-same t cycle (stays (prescaling t cycle mask) h)
work-same t call.Reset cycle r h = absurd (true≢false h)
