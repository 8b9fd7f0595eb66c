-- Calls that disturb nothing let the count go on as the ticks go.
use Prim.Native.Nat.{ℕ, suc, ◌+◌, ◌-◌, ◌%◌, ◌≤◌, ◌<◌}
use native.Mathlib.Omega.{arith}
use native.Mathlib.Nat.{le_refl}
use mathlib.Core.Path.{◌≡◌, refl, sym, ap, subst, ◌∙◌}
use mathlib.Core.Bool.{Bool, true, false, cond, ◌&&◌, ◌||◌, and-false, true≢false}
use mathlib.Core.List.{List, [], ◌∷◌}
use mathlib.Core.Logic.{◌⊎◌, inl, inr, ⊎_elim}
use lib.Dec.{eqb, leb}
use lib.ListN.{length}
use borrow.Author.Tests.{eqb-true, eqb-false, ne_eqb, leb-true, lt-ltb}
use Rattle.time.specs.declared.units.Prescaler.{Prescaler}
use Rattle.time.specs.Units.{ticks_at}
use Rattle.time.specs.Halts.{holding}
use Rattle.counter.specs.declared.state.Timer.{Timer}
use Rattle.counter.specs.Capture.{captured, ticks_on}
use Rattle.counter.specs.Halts.{latest_to, halting, asleep_at, awake_at, reduced_to, prescaled_at, tsm_to, routed_to}
use Rattle.counter.specs.Logs.{Noted}
use Rattle.counter.specs.Modes.{mode_of, kind_at, max_at, wave_of, falling, rising, clock_at, divisor_at, chosen, divisor_of, prescaler_of, held_of, running_of}
use Rattle.counter.specs.Passage.{due, start, synced, advanced, passed, sync_to, sync_of}
use Rattle.counter.specs.Registers.{read_timer}
use Rattle.counter.specs.Setting.{setting_of, setting_at}
use Rattle.counter.specs.Valid.{Valid}
use Rattle.passage.specs.Passage.{Run, ticks}
use Rattle.tick.proofs.Choices.{cond-case, cond-all}
use Rattle.answers.specs.Answers.{Told}
use Rattle.timer.specs.declared.calls.Call.{Call}
use Rattle.timer.specs.declared.calls.Call.TheVariants as call
use Rattle.timer.specs.Calls.{placed, edge_captures, edge_ticks, output_captures, asks, works, before, worked, moved, performed, refusal_of, answered}
use Rattle.timer.specs.Claims.{Request, told, last}
use Rattle.timer.proofs.Outcomes.{reducing, stays}
use Rattle.outlook.specs.Announced.{touches}
use Rattle.shift.specs.Claims.{Undisturbed}
use Rattle.timer.proofs.Accepted.{Accepted, call-accepted}
use Rattle.timer.proofs.Timely.{timely}
use Rattle.timer.proofs.Keeps.{call-keeps}
use Rattle.shift.proofs.Counting.{Counts, ticks-count, ticks-made, ticks-from, sync_at}

-- x has come from t: same mode, divisor and origin, nothing holds it, and its count is that of its last tick's number
pub record Follows (t : Timer) (base : ℕ) (x : Timer) : Type 0 where
  pub config : x.config ≡ t.config
  pub tccra : x.registers.tccra ≡ t.registers.tccra
  pub tccrb : x.registers.tccrb ≡ t.registers.tccrb
  pub origin : x.clock.origin ≡ t.clock.origin
  pub free : holding x.halts ≡ false
  pub count : x.counter.count ≡ (base + ticks_at (prescaler_of t) x.clock.sync.0) % suc (max_at t.config.wide)

-- ---- small things
-- a T edge is chosen where the clock has no divisor
not_chosen : (clocks select level : ℕ) → 0 < divisor_at clocks select → chosen clocks select level ≡ false
unfolding divisor_at chosen
not_chosen clocks select level h = go (leb (clock_at clocks select) 1024) refl h
  where
    go : (b : Bool) → leb (clock_at clocks select) 1024 ≡ b → 0 < cond b (clock_at clocks select) 0 → eqb (clock_at clocks select) falling && eqb level 0 || eqb (clock_at clocks select) rising && eqb level 1 ≡ false
    go true e k =
        let l = leb-true (clock_at clocks select) 1024 e in
        simp (ne_eqb (clock_at clocks select) falling (λ z. omega arith), ne_eqb (clock_at clocks select) rising (λ z. omega arith))
    go false e k = absurd (omega arith)

-- ---- what a call leaves: accepted, the timer advanced or after the call's own work; else the timer as it was
pub record Ends (R : Timer → Type 0) (t : Timer) (x : Told) : Type 0 where
  pub went : ((x.number ≡ 0) × R x.timer) ⊎ ((x.number ≡ 0 → ⊥) × (x.timer ≡ t))

pub told-ends : (R : Timer → Type 0) (t : Timer) (q : Request)
    → (Accepted t q.call q.cycle → (asks t q.call).advances ≡ true → R (advanced ticks t q.cycle (length q.area)).timer)
    → (Accepted t q.call q.cycle → (asks t q.call).advances ≡ false → R (latest_to (works (before ticks t (asks t q.call).syncs q.cycle).timer q.call q.cycle).timer q.cycle))
    → Ends R t (told ticks t q)
unfolding answered performed moved worked
told-ends R t q advance work =
    cond-case (Ends R t) (eqb (refusal_of t q.call q.cycle) 0)
    (λ e. let a = call-accepted t q.call q.cycle (eqb-true _ _ e) in
    cond-case (Ends R t) (asks t q.call).advances (λ z. record { went = inl (refl, advance a z) })
    (λ z. cond-all (Ends R t) (leb _ (length q.area)) (record { went = inl (refl, work a z) }) (record { went = inr (λ n. omega arith, refl) })))
    (λ e. record { went = inr (eqb-false _ _ e, refl) })

module _ (t : Timer) (base : ℕ) (divides : 0 < divisor_of t) (normal : kind_at t.config.wide (mode_of t) ≡ 0) where
  -- ---- time passes
  module _ (x : Timer) (f : Follows t base x) where
    same-divisor : divisor_of x ≡ divisor_of t
    unfolding divisor_of
    same-divisor = simp (f.config, f.tccrb)

    same-prescaler : prescaler_of x ≡ prescaler_of t
    unfolding divisor_of
    same-prescaler = rw (f.origin, same-divisor)

    same-mode : mode_of x ≡ mode_of t
    unfolding mode_of
    same-mode = simp (f.config, f.tccra, f.tccrb)

    same_kind : (setting_of x).wave.kind ≡ 0
    unfolding setting_at wave_of
    same_kind = rw (same-mode, f.config) normal

    same-max : (setting_of x).wave.max ≡ max_at t.config.wide
    unfolding setting_at wave_of
    same-max = rw f.config

    runs : running_of x ≡ true
    unfolding running_of held_of
    runs = simp (same-divisor, lt-ltb 0 (divisor_of t) divides, f.free)

    start-counts : Counts (setting_of x) base (start x)
    unfolding start
    start-counts = rw (same-max, same-prescaler) f.count

    module _ (v : Valid x) (cycle : ℕ) (l : x.clock.latest.0 ≤ cycle) (fits : ℕ → Bool) where
      abbrev whole : Run
      whole = ticks (setting_of x) (prescaler_of x) fits (due x cycle) (start x)

      due-is : due x cycle ≡ ticks_at (prescaler_of x) cycle - ticks_at (prescaler_of x) x.clock.sync.0
      unfolding due
      due-is = simp runs

      all-due : whole.paused ≡ false → whole.at ≡ ticks_at (prescaler_of x) x.clock.sync.0 + (ticks_at (prescaler_of x) cycle - ticks_at (prescaler_of x) x.clock.sync.0)
      unfolding start
      all-due e = ticks-made (setting_of x) (prescaler_of x) fits (due x cycle) (start x) e ∙ ap (λ (n : ℕ). ticks_at (prescaler_of x) x.clock.sync.0 + n) due-is

      none-behind : ticks_at (prescaler_of x) x.clock.sync.0 ≤ whole.at
      unfolding start
      none-behind = ticks-from (setting_of x) (prescaler_of x) fits (ticks_at (prescaler_of x) x.clock.sync.0) (due x cycle) (start x) (le_refl _)

      sync-tick : ticks_at (prescaler_of x) (sync_of x cycle whole) ≡ whole.at
      unfolding sync_of
      sync-tick =
          let d : 0 < divisor_of x = rw same-divisor divides in
          let s = v.sync in
          sync_at (prescaler_of x) x.clock.sync.0 cycle whole.at whole.paused d v.origin (omega arith) none-behind all-due

      passed-count : whole.moving.counter.count ≡ (base + ticks_at (prescaler_of t) (sync_of x cycle whole)) % suc (max_at t.config.wide)
      passed-count =
          let e : ticks_at (prescaler_of t) (sync_of x cycle whole) ≡ whole.at = ap (λ (p : Prescaler). ticks_at p (sync_of x cycle whole)) (sym same-prescaler) ∙ sync-tick in
          rw (e, ← same-max) (ticks-count (setting_of x) (prescaler_of x) fits base same_kind (due x cycle) (start x) start-counts)

      pub passed-follows : Follows t base (passed x cycle whole).timer
      unfolding passed sync_to
      passed-follows = record { config = f.config; tccra = f.tccra; tccrb = f.tccrb; origin = f.origin; free = f.free; count = passed-count }

  advanced-follows : (x : Timer) → Follows t base x → Valid x → (cycle : ℕ) → x.clock.latest.0 ≤ cycle → (room : ℕ) → Follows t base (advanced ticks x cycle room).timer
  unfolding advanced
  advanced-follows x f v cycle l room = passed-follows x f v cycle l (λ k. leb k room)

  pub before-follows : (x : Timer) → Follows t base x → Valid x → (syncs : Bool) (cycle : ℕ) → x.clock.latest.0 ≤ cycle → Follows t base (before ticks x syncs cycle).timer
  unfolding before synced
  before-follows x f v true cycle l = passed-follows x f v cycle l (λ k. true)
  before-follows x f v false cycle l = f

  -- ---- the calls' own work
  latest-follows : (x : Timer) (cycle : ℕ) → Follows t base x → Follows t base (latest_to x cycle)
  latest-follows x cycle f = record { config = f.config; tccra = f.tccra; tccrb = f.tccrb; origin = f.origin; free = f.free; count = f.count }

  -- a T edge is chosen where no divisor is
  no-tick : (x : Timer) (pin level : ℕ) → Follows t base x → edge_ticks x pin level ≡ false
  unfolding edge_ticks ticks_on divisor_of
  no-tick x pin level f =
      let d : 0 < divisor_at x.config.clocks (x.registers.tccrb % 8) = rw (f.config, f.tccrb) divides in
      simp (not_chosen x.config.clocks (x.registers.tccrb % 8) level d, and-false)

  works-follow : (x : Timer) (c : Call) (cycle : ℕ) → Follows t base x → touches x c ≡ false → Follows t base (latest_to (works x c cycle).timer cycle)
  unfolding touches works read_timer captured routed_to asleep_at awake_at reduced_to tsm_to prescaled_at
  works-follow x call.Advance cycle f e = latest-follows x cycle f
  works-follow x call.Next cycle f e = latest-follows x cycle f
  works-follow x (call.Read address) cycle f e = cond-all (λ (u : Timer). Follows t base (latest_to u cycle)) ((eqb (placed x address) 0 || eqb (placed x address) 8) && x.config.wide) (record { config = f.config; tccra = f.tccra; tccrb = f.tccrb; origin = f.origin; free = f.free; count = f.count }) (latest-follows x cycle f)
  works-follow x (call.Peek address) cycle f e = latest-follows x cycle f
  works-follow x (call.Write address value) cycle f e = absurd (true≢false e)
  works-follow x call.Tifr cycle f e = latest-follows x cycle f
  works-follow x call.Timsk cycle f e = latest-follows x cycle f
  works-follow x (call.WriteTifr ones) cycle f e = (record { config = f.config; tccra = f.tccra; tccrb = f.tccrb; origin = f.origin; free = f.free; count = f.count })
  works-follow x (call.WriteTimsk mask) cycle f e = (record { config = f.config; tccra = f.tccra; tccrb = f.tccrb; origin = f.origin; free = f.free; count = f.count })
  works-follow x (call.Edge pin level) cycle f e = cond-all (λ (n : Noted). Follows t base (latest_to n.timer cycle)) (edge_captures x pin level) (record { config = f.config; tccra = f.tccra; tccrb = f.tccrb; origin = f.origin; free = f.free; count = f.count }) (rw (no-tick x pin level f) (latest-follows x cycle f))
  works-follow x (call.Output level) cycle f e = cond-all (λ (n : Noted). Follows t base (latest_to n.timer cycle)) (output_captures x level) (record { config = f.config; tccra = f.tccra; tccrb = f.tccrb; origin = f.origin; free = f.free; count = f.count }) (latest-follows x cycle f)
  works-follow x (call.Route level) cycle f e = cond-all (λ (u : Timer). Follows t base (latest_to u cycle)) x.config.icr.present (record { config = f.config; tccra = f.tccra; tccrb = f.tccrb; origin = f.origin; free = f.free; count = f.count }) (latest-follows x cycle f)
  works-follow x (call.Sleep mode) cycle f e = rw e (latest-follows x cycle f)
  works-follow x call.Wake cycle f e = cond-case (λ (u : Timer). Follows t base (latest_to u cycle)) x.halts.asleep (λ a. absurd (true≢false (rw a at f.free))) (λ a. latest-follows x cycle f)
  works-follow x (call.Reduce mask) cycle f e = subst (λ (u : Timer). Follows t base (latest_to u cycle)) (stays (reducing x cycle mask) e) (latest-follows x cycle f)
  works-follow x (call.Tsm level) cycle f e = rw e (latest-follows x cycle f)
  works-follow x (call.Prescale mask) cycle f e = rw e (latest-follows x cycle f)
  works-follow x call.Reset cycle f e = absurd (true≢false e)

  -- ---- a call, and a list of calls
  touches-same : (x y : Timer) (c : Call) → y.config ≡ x.config → y.halts ≡ x.halts → touches x c ≡ false → touches y c ≡ false
  unfolding touches halting
  touches-same x y call.Advance g h e = refl
  touches-same x y call.Next g h e = refl
  touches-same x y (call.Read address) g h e = refl
  touches-same x y (call.Peek address) g h e = refl
  touches-same x y (call.Write address value) g h e = e
  touches-same x y call.Tifr g h e = refl
  touches-same x y call.Timsk g h e = refl
  touches-same x y (call.WriteTifr ones) g h e = refl
  touches-same x y (call.WriteTimsk mask) g h e = refl
  touches-same x y (call.Edge pin level) g h e = refl
  touches-same x y (call.Output level) g h e = refl
  touches-same x y (call.Route level) g h e = refl
  touches-same x y (call.Sleep mode) g h e = rw g e
  touches-same x y call.Wake g h e = refl
  touches-same x y (call.Reduce mask) g h e = rw (g, h) e
  touches-same x y (call.Tsm level) g h e = rw h e
  touches-same x y (call.Prescale mask) g h e = rw g e
  touches-same x y call.Reset g h e = e

  told-follows : (x : Timer) (q : Request) → Follows t base x → Valid x → ((told ticks x q).number ≡ 0 → touches x q.call ≡ false) → Follows t base (told ticks x q).timer
  told-follows x q f v h =
      ⊎_elim
      (λ (w : _). w.1 (h w.0))
      (λ (w : _). rw w.1 f)
      (told-ends (λ (u : Timer). touches x q.call ≡ false → Follows t base u) x q
      (λ a z d. advanced-follows x f v q.cycle a.latest (length q.area))
      (λ a z d. let g = timely x (asks x q.call).syncs q.cycle v a.latest a.most in
      works-follow _ q.call q.cycle (before-follows x f v (asks x q.call).syncs q.cycle a.latest) (touches-same x _ q.call g.config g.halts d))).went

  pub list-follows : (x : Timer) (qs : List Request) → Follows t base x → Valid x → Undisturbed x qs → Follows t base (last ticks x qs)
  unfolding last Undisturbed
  list-follows x [] f v u = f
  list-follows x (q ∷ qs) f v u = list-follows (told ticks x q).timer qs (told-follows x q f v u.0) (call-keeps x q v) u.1
