-- What is announced stays, and its tick raises what was announced.
use Prim.Native.Nat.{ℕ, ◌+◌, ◌≤◌, ◌<◌, max}
use native.Mathlib.Omega.{arith}
use native.Mathlib.Nat.{add-mul}
use mathlib.Core.Path.{◌≡◌, refl, sym, ◌∙◌}
use mathlib.Core.Bool.{Bool, true, false, cond, true≢false, false≢true}
use mathlib.Core.Logic.{inl, inr}
use mathlib.Core.List.{List}
use lib.Dec.{eqb, leb, leb-zero}
use lib.ListN.{length, drop}
use lib.Seq.{take-append_seam}
use borrow.Author.Tests.{leb-true, leb-false}
use Rattle.wave.specs.Distance.{gap}
use Rattle.time.specs.declared.units.Cycle.{Cycle}
use Rattle.time.specs.declared.units.Prescaler.{Prescaler}
use Rattle.time.specs.Units.{ticks_at, cycle_at}
use Rattle.time.proofs.Clocks.{cycle-mono}
use Rattle.tick.specs.Distance.{flags_ahead}
use Rattle.tick.proofs.Choices.{cond-case, cond-all}
use Rattle.passage.specs.Passage.{Run, ticks}
use Rattle.counter.specs.declared.next.Next.TheVariants.{At, Never}
use Rattle.counter.specs.declared.state.Timer.{Timer}
use Rattle.counter.specs.Halts.{latest_to, halting}
use Rattle.counter.specs.Modes.{mode_of, wave_of, prescaler_of, running_of}
use Rattle.counter.specs.Next.{next_at, next_flags, next_of}
use Rattle.counter.specs.Passage.{Passed, due, start, passed, advanced, sync_to, sync_of}
use Rattle.counter.specs.Setting.{setting_at, setting_of, moving_of}
use Rattle.counter.specs.Valid.{Valid}
use Rattle.counter.proofs.Clocks.{running-divides}
use Rattle.counter.proofs.Keeps.{fresh-is-valid}
use Rattle.counter.proofs.Runs.{start-kept}
use Rattle.answers.specs.Answers.{Values, Told}
use Rattle.answers.specs.Refusals.{is_due}
use Rattle.timer.specs.declared.calls.Call.{Call}
use Rattle.timer.specs.declared.calls.Call.TheVariants as call
use Rattle.timer.specs.Calls.{asks, works, says, before, worked, moved, performed, refusal_of, answered}
use Rattle.timer.specs.Claims.{Request, told}
use Rattle.timer.proofs.Accepted.{Accepted, told-all}
use Rattle.timer.proofs.Keeps.{call-keeps, last-valid}
use Rattle.timer.proofs.Progress.{event-due}
use Rattle.timer.proofs.Quiet.{announces}
use Rattle.timer.proofs.Timely.{timely}
use Rattle.outlook.specs.Announced.{touches, Untouched, Waits, still, then, flags_of, Raises, Stands, Says, Announced}
use Rattle.outlook.proofs.Passing.{event-worked, passes-event}
use Rattle.outlook.proofs.Same.{Same, same-trans, same_refl, next-after, sync-same, advance-same}
use Rattle.outlook.proofs.Untouched.{latest-same, work-same}
use Rattle.outlook.proofs.Flagged.{event-raised}

-- ---- one call
-- turned away, it leaves the timer
record Left (t : Timer) (x : Told) : Type 0 where
  timer : (x.number ≡ 0 → ⊥) → x.timer ≡ t

refused-left : (t : Timer) (q : Request) → Left t (told ticks t q)
unfolding answered performed moved worked
refused-left t q =
    cond-all (Left t) (eqb (refusal_of t q.call q.cycle) 0)
    (cond-all (Left t) (asks t q.call).advances (record { timer = λ h. absurd (h refl) })
    (cond-all (Left t) (leb _ (length q.area)) (record { timer = λ h. absurd (h refl) }) (record { timer = λ h. refl })))
    (record { timer = λ h. refl })

-- it lets time pass only where it may not pass the event
syncs-tested : (t : Timer) (c : Call) → touches t c ≡ false → (asks t c).syncs ≡ true → (asks t c).tested ≡ true
unfolding touches asks
syncs-tested t call.Advance h e = absurd (false≢true e)
syncs-tested t call.Next h e = refl
syncs-tested t (call.Read address) h e = e
syncs-tested t (call.Peek address) h e = refl
syncs-tested t (call.Write address value) h e = absurd (true≢false h)
syncs-tested t call.Tifr h e = refl
syncs-tested t call.Timsk h e = refl
syncs-tested t (call.WriteTifr ones) h e = refl
syncs-tested t (call.WriteTimsk mask) h e = refl
syncs-tested t (call.Edge pin level) h e = refl
syncs-tested t (call.Output level) h e = refl
syncs-tested t (call.Route level) h e = refl
syncs-tested t (call.Sleep mode) h e = refl
syncs-tested t call.Wake h e = refl
syncs-tested t (call.Reduce mask) h e = refl
syncs-tested t (call.Tsm level) h e = refl
syncs-tested t (call.Prescale mask) h e = refl
syncs-tested t call.Reset h e = absurd (true≢false h)

touches-kept : (t x : Timer) (c : Call) → x.config ≡ t.config → x.halts ≡ t.halts → touches x c ≡ touches t c
unfolding touches halting
touches-kept t x call.Advance g h = refl
touches-kept t x call.Next g h = refl
touches-kept t x (call.Read address) g h = refl
touches-kept t x (call.Peek address) g h = refl
touches-kept t x (call.Write address value) g h = refl
touches-kept t x call.Tifr g h = refl
touches-kept t x call.Timsk g h = refl
touches-kept t x (call.WriteTifr ones) g h = refl
touches-kept t x (call.WriteTimsk mask) g h = refl
touches-kept t x (call.Edge pin level) g h = refl
touches-kept t x (call.Output level) g h = refl
touches-kept t x (call.Route level) g h = refl
touches-kept t x (call.Sleep mode) g h = rw g
touches-kept t x call.Wake g h = refl
touches-kept t x (call.Reduce mask) g h = rw (g, h)
touches-kept t x (call.Tsm level) g h = rw h
touches-kept t x (call.Prescale mask) g h = rw g
touches-kept t x call.Reset g h = refl

module _ (t : Timer) (v : Valid t) (r : running_of t ≡ true) where
  not-due : (cycle : ℕ) → is_due t cycle ≡ false → cycle < next_at t
  unfolding is_due
  not-due cycle e = leb-false (next_at t) cycle (rw r at e)

  before_same : (c : Call) (cycle : ℕ) → touches t c ≡ false → Accepted t c cycle → Same t (before ticks t (asks t c).syncs cycle).timer
  unfolding before
  before_same c cycle h a = go (asks t c).syncs refl
    where
      go : (b : Bool) → (asks t c).syncs ≡ b → Same t (before ticks t b cycle).timer
      go true e = sync-same t v r cycle (let k = v.sync in let l = a.latest in omega arith) (not-due cycle (rw (syncs-tested t c h e) at a.early))
      go false e = same_refl t

  work-told : (q : Request) → touches t q.call ≡ false → (told ticks t q).timer.clock.sync.0 < next_at t → Same t (told ticks t q).timer
  work-told q h =
      told-all (λ (u : Timer). u.clock.sync.0 < next_at t → Same t u) t q (λ l. same_refl t)
      (λ a. advance-same t v r q.cycle (let k = v.sync in let l = a.latest in omega arith) (length q.area))
      (λ a l. let s = before_same q.call q.cycle h a in
      let g = timely t (asks t q.call).syncs q.cycle v a.latest a.most in
      same-trans s (work-same _ q.call q.cycle (s.running ∙ r) (touches-kept t _ q.call g.config g.halts ∙ h)))

  call_same : (q : Request) → Untouched t q → (told ticks t q).timer.clock.sync.0 < next_at t → Same t (told ticks t q).timer
  call_same q (inl h) l = rw ((refused-left t q).timer h) (same_refl t)
  call_same q (inr h) l = work-told q h l

-- ---- a list of calls
record Stays (t u : Timer) : Type 0 where
  valid : Valid u
  same : Same t u

waits-same : {n : ℕ} {t u : Timer} {qs : List Request} → Valid t → running_of t ≡ true → next_at t ≡ n → Waits n t qs u → Stays t u
waits-same v r e (still n t) = record { valid = v; same = same_refl t }
waits-same v r e (then n t q qs u o l w) =
    let s = call_same t v r q o (rw e l) in
    let k = waits-same (call-keeps t q v) (s.running ∙ r) (s.next ∙ e) w in
    record { valid = k.valid; same = same-trans s k.same }

-- ---- the event's tick
cycle-further : (p : Prescaler) (n : ℕ) → 0 < p.divisor → cycle_at p n < cycle_at p (n + 1)
unfolding cycle_at
cycle-further p n d = let m = add-mul n 1 p.divisor in omega arith

module _ (t : Timer) (v : Valid t) (r : running_of t ≡ true) where
  after-event : (at : ℕ) → next_at t ≤ cycle_at (prescaler_of t) at → ticks_at (prescaler_of t) t.clock.sync.0 + (gap (wave_of t (mode_of t)) t.counter t.ocr + 1) ≤ at
  unfolding next_at
  after-event at h = go (leb next at) refl
    where
      next : ℕ
      next = ticks_at (prescaler_of t) t.clock.sync.0 + (gap (wave_of t (mode_of t)) t.counter t.ocr + 1)

      go : (b : Bool) → leb next at ≡ b → next ≤ at
      go true e = leb-true next at e
      go false e =
          let l = leb-false next at e in
          let m = cycle-mono (prescaler_of t) (at + 1) next (omega arith) in
          let f = cycle-further (prescaler_of t) at (running-divides t r) in
          absurd (omega arith)

  module _ (cycle room : ℕ) where
    abbrev run : Run
    run = ticks (setting_of t) (prescaler_of t) (λ k. leb k room) (due t cycle) (start t)

    -- an advance that comes to the event's cycle has worked its tick
    run_past : (b : Bool) → run.paused ≡ b → next_at t ≤ cond b (max t.clock.sync.0 (cycle_at (prescaler_of t) run.at)) cycle
        → ticks_at (prescaler_of t) t.clock.sync.0 + (gap (wave_of t (mode_of t)) t.counter t.ocr + 1) ≤ run.at
    unfolding start setting_at
    run_past true e h = let k = next-after t r v.origin in after-event run.at (omega arith)
    run_past false e h = passes-event (setting_of t) (prescaler_of t) (λ k. leb k room) (start t) (start-kept (λ k. leb k room) t v (leb-zero room)) refl (due t cycle) (event-due t cycle r h) e

    advance-raises : (area : List ℕ) → next_at t ≤ (advanced ticks t cycle room).timer.clock.sync.0
        → Raises t (next_at t) (flags_ahead (setting_of t) (moving_of t)) (moved (advanced ticks t cycle room) area)
    unfolding moved advanced passed sync_of sync_to start setting_at next_at flags_ahead
    advance-raises area h =
        let w = event-worked (setting_of t) (prescaler_of t) (λ k. leb k room) (start t) (start-kept (λ k. leb k room) t v (leb-zero room)) refl (due t cycle) (run_past run.paused refl h) in
        record {
          rest = w.rest;
          bytes = take-append_seam run.bytes (drop (length run.bytes) area) ∙ w.is;
          raised = event-raised t _ v.accepted;
        }

  told-raises : (cycle : ℕ) (area : List ℕ) → next_at t ≤ (told ticks t (record { call = call.Advance; cycle = cycle; area = area })).timer.clock.sync.0
      → Raises t (next_at t) (flags_ahead (setting_of t) (moving_of t)) (told ticks t (record { call = call.Advance; cycle = cycle; area = area }))
  unfolding answered performed asks moved
  told-raises cycle area =
      cond-case (λ (x : Told). next_at t ≤ x.timer.clock.sync.0 → Raises t (next_at t) (flags_ahead (setting_of t) (moving_of t)) x)
      (eqb (refusal_of t call.Advance cycle) 0) (λ e h. advance-raises cycle (length area) area h) (λ e h. let k = next-after t r v.origin in absurd (omega arith))

-- ---- what an answer says of the next event
same_next : {t x : Timer} → Same t x → next_of x ≡ next_of t
unfolding next_of
same_next s = rw (s.running, s.next, s.flags)

flags-next : (t : Timer) → next_flags t ≡ flags_of (next_of t)
unfolding next_flags next_of
flags-next t = cond-flags (running_of t)
  where
    cond-flags : (b : Bool) → cond b (flags_ahead (setting_of t) (moving_of t)) 0 ≡ flags_of (cond b (At (record { 0 = next_at t }) (flags_ahead (setting_of t) (moving_of t))) Never)
    cond-flags true = refl
    cond-flags false = refl

work-says : (t : Timer) (c : Call) (cycle : ℕ) → Says (says t c) (next_of (latest_to (works t c cycle).timer cycle))
unfolding says works
work-says t call.Next cycle = sym (same_next (latest-same t cycle))
work-says t call.Advance cycle = tt
work-says t (call.Read address) cycle = tt
work-says t (call.Peek address) cycle = tt
work-says t (call.Write address value) cycle = tt
work-says t call.Tifr cycle = tt
work-says t call.Timsk cycle = tt
work-says t (call.WriteTifr ones) cycle = tt
work-says t (call.WriteTimsk mask) cycle = tt
work-says t (call.Edge pin level) cycle = tt
work-says t (call.Output level) cycle = tt
work-says t (call.Route level) cycle = tt
work-says t (call.Sleep mode) cycle = tt
work-says t call.Wake cycle = tt
work-says t (call.Reduce mask) cycle = tt
work-says t (call.Tsm level) cycle = tt
work-says t (call.Prescale mask) cycle = tt
work-says t call.Reset cycle = tt

told-says : (t : Timer) (q : Request) → let x = told ticks t q in Says x.values (next_of x.timer)
unfolding answered performed worked moved
told-says t q =
    cond-all So (eqb (refusal_of t q.call q.cycle) 0)
    (cond-all So (asks t q.call).advances (cond-all (λ (v : Values). Says v (next_of after)) run.paused (flags-next after) (flags-next after))
    (cond-all So (leb _ (length q.area)) (work-says _ q.call q.cycle) tt))
    tt
  where
    So : Told → Type 0
    So x = Says x.values (next_of x.timer)

    run : Passed
    run = advanced ticks t q.cycle (length q.area)

    after : Timer
    after = run.timer

-- ---- the claim
stands-next : (t : Timer) (at : Cycle) (flags : ℕ) → running_of t ≡ true → next_at t ≡ at.0 → flags_ahead (setting_of t) (moving_of t) ≡ flags → next_of t ≡ At at flags
unfolding next_of
stands-next t at flags r n f = simp (r, n, f)

event-stays : (t : Timer) → Valid t → (at : Cycle) (flags : ℕ) (qs : List Request) (u : Timer) → next_of t ≡ At at flags → Waits at.0 t qs u → Stands u at flags
event-stays t v at flags qs u h w =
    let a = announces t (sym h) in
    let k = waits-same v a.running (sym a.cycle) w in
    let r = k.same.running ∙ a.running in
    let n = k.same.next ∙ sym a.cycle in
    let f = k.same.flags ∙ sym a.raised in
    record { next = stands-next u at flags r n f; raises = λ wanted room. rw (n, f) at (told-raises u k.valid r wanted room) }

pub announced : Announced
announced c e qs q = record { says = told-says _ q; stays = event-stays _ (call-keeps _ q (last-valid _ qs (fresh-is-valid c e))) }
