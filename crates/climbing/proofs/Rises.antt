-- An advance over events of a rising count: what it begins with is known, and what it leaves is what the ticks leave.
use Prim.Native.Nat.{ℕ, ◌+◌, ◌-◌, ◌*◌, ◌/◌, ◌%◌, ◌≤◌, ◌<◌, ◌^◌, max}
use native.Mathlib.Omega.{arith}
use native.Mathlib.Decide.{dec_lt}
use native.Mathlib.Nat.{pow-le-pow_right, one-mul, add-mul, mul-div_cancel, div-mul-le_self, lt-div-mul-add, div-lt_iff_lt-mul, div-eq_of_lt-le}
use mathlib.Core.Path.{◌≡◌, refl, sym, ap, ◌∙◌}
use mathlib.Core.Bool.{Bool, true, false, cond, ◌&&◌}
use mathlib.Core.List.{List, []}
use mathlib.Core.Logic.{◌⊎◌, ⊎_elim}
use lib.Dec.{eqb, leb, ltb}
use lib.IntN.{ℤ}
use lib.ListN.{length, take, drop, take-append-drop}
use lib.Pow.{shl_exact}
use lib.Seq.{length-take-le}
use borrow.Author.Tests.{eqb-true, leb-true, leb-false, le-leb, lt-leb, ltb-false, not-true}
use Rattle.time.specs.declared.units.Prescaler.{Prescaler}
use Rattle.time.specs.Units.{ticks_at, cycle_at, late_at}
use Rattle.time.proofs.Clocks.{cycle-mono}
use Rattle.wave.specs.Kinds.{F, P}
use Rattle.wave.specs.Count.{falls, counted}
use Rattle.wave.specs.Distance.{gap, moved}
use Rattle.tick.specs.declared.setting.Moving.{Moving}
use Rattle.tick.specs.declared.setting.Setting.{Setting}
use Rattle.tick.specs.Distance.{flags_ahead}
use Rattle.tick.specs.Setting.{channel_of}
use Rattle.tick.specs.Skip.{linear}
use Rattle.tick.specs.Tick.{events_of, raised}
use Rattle.tick.proofs.Bounds.{gap-max}
use Rattle.passage.specs.Passage.{ticks, quiet, standing}
use Rattle.passage.proofs.Loops.{within}
use Rattle.passage.proofs.Runs.{quiet-ticks}
use Rattle.counter.specs.declared.next.Next.TheVariants as next
use Rattle.counter.specs.declared.state.Timer.{Timer}
use Rattle.counter.specs.Modes.{mode_of, wave_of, divisor_of, prescaler_of, held_of, running_of}
use Rattle.counter.specs.Next.{next_at, next_of, next_flags}
use Rattle.counter.specs.Passage.{due, start, sync_to, sync_of, passed, advanced, Advances}
use Rattle.counter.specs.Setting.{setting_at, setting_of, moving_of, settle}
use Rattle.counter.specs.Valid.{Valid}
use Rattle.counter.proofs.Bounds.{divisor-max, valid-sound}
use Rattle.counter.proofs.Clocks.{running-divides}
use Rattle.counter.proofs.Lasting.{advance-keeps}
use Rattle.answers.specs.Refusals.{late}
use Rattle.timer.specs.declared.calls.Call.TheVariants as call
use Rattle.timer.specs.Calls.{answered}
use Rattle.timer.proofs.Outcomes.{stopped, came}
use Rattle.scene.specs.Scene.{Apart, scene_of}
use Rattle.scene.proofs.Flags.{apart_of}
use Rattle.strike.specs.declared.Rise.{Rise}
use Rattle.strike.proofs.Strikes.{known-fits}
use Rattle.strike.specs.Strike.{tick_in, run_in, Known, Fit, Rose, EveryRun}
use Rattle.held.specs.declared.reply.Reply.{Reply}
use Rattle.climbing.specs.declared.Risen.{Risen}
use Rattle.held.specs.declared.state.Held.{Held}
use Rattle.held.specs.Held.{Kept, code_of, flags_in, never}
use Rattle.held.specs.Quick.{refusing, ticks_to}
use Rattle.held.specs.Reply.{replied, Serves}
use Rattle.climbing.specs.Rise.{strikes_of, start_of, risen_in}
use Rattle.held.proofs.Answers.{told-serves}
use Rattle.held.proofs.Holds.{none-next}
use Rattle.held.proofs.Laws.{gap-shrinks, linear-on}
use Rattle.held.proofs.Passes.{div_mono}

-- ---- ticks and their cycles
module _ (p : Prescaler) (d : 0 < p.divisor) where
  -- a tick's cycle has its number
  ticks-at : (k : ℕ) → ticks_at p (cycle_at p k) ≡ k
  unfolding ticks_at cycle_at
  ticks-at k = let e : p.origin.0 + k * p.divisor - p.origin.0 ≡ k * p.divisor = omega arith in rw e (mul-div_cancel k d)

  cycle-next : (k : ℕ) → cycle_at p (k + 1) ≡ cycle_at p k + p.divisor
  unfolding cycle_at
  cycle-next k = let e = add-mul k 1 p.divisor in omega arith

  -- a cycle lies before the tick after its last
  tick-after : (c : ℕ) → c < cycle_at p (ticks_at p c + 1)
  unfolding ticks_at cycle_at
  tick-after c =
      let k = lt-div-mul-add {a = c - p.origin.0} d in
      let e = add-mul ((c - p.origin.0) / p.divisor) 1 p.divisor in
      omega arith

  -- and has fewer ticks than a tick that lies after it
  ticks-below : (c k : ℕ) → c < cycle_at p k → 0 < k → ticks_at p c < k
  unfolding ticks_at cycle_at
  ticks-below c k l z = let m = mul-positive k z in (div-lt_iff_lt-mul d).1 (omega arith)
    where
      mul-positive : (k : ℕ) → 0 < k → 0 < k * p.divisor
      mul-positive k z = let e : k - 1 + 1 ≡ k = omega arith in let m = add-mul (k - 1) 1 p.divisor in let n = rw e at m in omega arith

  ticks-between : (c k : ℕ) → cycle_at p k ≤ c → c < cycle_at p (k + 1) → ticks_at p c ≡ k
  unfolding ticks_at cycle_at
  ticks-between c k a b = div-eq_of_lt-le p.divisor (omega arith) (omega arith)

  -- the ticks that lie between a cycle and a later tick
  ticks-left : (c k : ℕ) → p.origin.0 ≤ c → c < cycle_at p k → 0 < k → (cycle_at p k - 1 - c) / p.divisor ≡ k - 1 - ticks_at p c
  unfolding ticks_at cycle_at
  ticks-left c k o l z =
      let q : ℕ = (c - p.origin.0) / p.divisor in
      let b : q < k = ticks-below c k l z in
      let a = div-mul-le_self (c - p.origin.0) p.divisor in
      let m = lt-div-mul-add {a = c - p.origin.0} d in
      let e : k - 1 - q + (q + 1) ≡ k = omega arith in
      let f = rw e at (add-mul (k - 1 - q) (q + 1) p.divisor) in
      let g = add-mul q 1 p.divisor in
      let n = add-mul (k - 1 - q) 1 p.divisor in
      div-eq_of_lt-le p.divisor (omega arith) (omega arith)

-- ---- what is asked
-- the call is in time, the counter runs and rises, and there is room for any tick's records
pub record Asked (h : Held) (cycle room : ℕ) : Type 0 where
  pub kept : Kept h
  pub free : h.timer.counter.blocked ≡ false
  pub kind : leb (wave_of h.timer (mode_of h.timer)).kind F ≡ true
  pub late : late_at h.timer.clock.latest.0 cycle ≡ 0
  pub timely : h.timer.clock.latest.0 ≤ cycle
  pub below : cycle < 2 ^ 62
  pub bytes : 110 ≤ room
  pub due : h.next ≤ cycle
  pub runs : running_of h.timer ≡ true

and_both : (a b : Bool) → a && b ≡ true → (a ≡ true) × (b ≡ true)
and_both true b e = (refl, e)
and_both false b e = (e, cc)

not_late : (latest next cycle : ℕ) → refusing false latest next cycle ≡ 0 → late_at latest cycle ≡ 0
unfolding refusing
not_late latest next cycle h = go (eqb (late_at latest cycle) 0) refl
  where
    go : (b : Bool) → eqb (late_at latest cycle) 0 ≡ b → late_at latest cycle ≡ 0
    go true e = eqb-true _ _ e
    go false e = rw e at h

in-time : (latest cycle : ℕ) → late_at latest cycle ≡ 0 → (latest ≤ cycle) × (cycle < 2 ^ 62)
in-time latest cycle = go (ltb (2 ^ 62 - 1) cycle) (ltb cycle latest) refl refl
  where
    go : (a b : Bool) → ltb (2 ^ 62 - 1) cycle ≡ a → ltb cycle latest ≡ b → ◌≡◌ {A = ℕ} (cond {A = ℕ} a 2 (cond b 3 0)) 0 → (latest ≤ cycle) × (cycle < 2 ^ 62)
    go true b p q e = let z : ◌≡◌ {A = ℕ} 2 0 = e in absurd (omega arith)
    go false true p q e = let z : ◌≡◌ {A = ℕ} 3 0 = e in absurd (omega arith)
    go false false p q e = (ltb-false _ _ q, omega (arith, ltb-false (2 ^ 62 - 1) cycle p))

pub asked : (h : Held) (cycle room : ℕ) → Kept h → strikes_of h.scene.kind h.timer.counter.blocked h.timer.clock.latest.0 h.next cycle room ≡ true → h.next ≤ cycle → Asked h cycle room
unfolding strikes_of scene_of setting_at
asked h cycle room k e n =
    let a = and_both _ _ e in
    let b = and_both _ _ a.0 in
    let c = and_both _ _ b.0 in
    let l = not_late h.timer.clock.latest.0 h.next cycle (eqb-true _ _ c.0) in
    let i = in-time h.timer.clock.latest.0 cycle l in
    let f : leb P (wave_of h.timer (mode_of h.timer)).kind ≡ false = rw k.scene at (not-true (leb P h.scene.kind) b.1) in
    let m = leb-false P (wave_of h.timer (mode_of h.timer)).kind f in
    record {
      kept = k;
      free = not-true _ c.1;
      kind = le-leb (wave_of h.timer (mode_of h.timer)).kind F (omega arith);
      late = l;
      timely = i.0;
      below = i.1;
      bytes = leb-true 110 room a.1;
      due = n;
      runs = go (running_of h.timer) refl i.1;
    }
  where
    go : (b : Bool) → running_of h.timer ≡ b → cycle < 2 ^ 62 → running_of h.timer ≡ true
    go true r l = r
    go false r l = let q : h.next ≡ never = k.next ∙ sym (none-next h.timer r) in absurd (omega arith)

-- ---- where it ends
-- what it leaves, of where its events left it
abbrev pub risen_of : Held → Rise → ℕ → Reply → Risen
risen_of h b end reply = record {
  count = b.count + (b.gap - (b.next - 1 - end) / 2 ^ h.shift);
  odometer = counted h.timer.counter.odometer (ticks_to h.timer.clock h.shift end);
  ocr = b.ocr;
  oc = b.oc;
  drives = b.drives;
  tifr = b.tifr;
  sync = end;
  latest = max h.timer.clock.latest.0 end;
  next = b.next;
  top = b.top;
  flags = b.flags;
  reply = reply;
}

module _ {h : Held} {cycle room : ℕ} (a : Asked h cycle room) where
  abbrev t : Timer
  t = h.timer

  abbrev s : Setting
  s = setting_of t

  abbrev p : Prescaler
  p = prescaler_of t

  abbrev dir : ℤ
  dir = t.counter.direction

  abbrev odo : ℕ
  odo = t.counter.odometer

  abbrev sync : ℕ
  sync = t.clock.sync.0

  abbrev first : ℕ
  first = ticks_at p sync

  abbrev near : ℕ
  near = gap (wave_of t (mode_of t)) t.counter t.ocr

  v : Valid t
  v = a.kept.valid

  divides : 0 < divisor_of t
  divides = running-divides t a.runs

  pub power : divisor_of t ≡ 2 ^ h.shift
  power = a.kept.shift a.runs

  next-is : h.next ≡ cycle_at p (first + (near + 1))
  unfolding code_of next_of next_at
  next-is = a.kept.next ∙ rw a.runs refl

  flags-are : h.flags ≡ flags_ahead s (moving_of t)
  unfolding flags_in next_of
  flags-are = a.kept.flags ∙ rw a.runs refl

  next-tick : ticks_at p h.next ≡ first + (near + 1)
  next-tick = ap (ticks_at p) next-is ∙ ticks-at p divides (first + (near + 1))

  sync-first : sync < cycle_at p (first + (near + 1))
  sync-first = let u = tick-after p divides sync in let w = cycle-mono p (first + 1) (first + (near + 1)) (omega arith) in omega arith

  sync-below : sync < h.next
  sync-below = rw next-is sync-first

  pub gap_is : (start_of h).gap ≡ near
  gap_is =
      let e : (cycle_at p (first + (near + 1)) - 1 - sync) / divisor_of t ≡ first + (near + 1) - 1 - first = ticks-left p divides sync (first + (near + 1)) v.origin sync-first (omega arith) in
      let f : first + (near + 1) - 1 - first ≡ near = omega arith in
      rw (← power, next-is) (e ∙ f)

  gap-small : (start_of h).gap < 2 ^ 32
  unfolding setting_at
  gap-small = let y = (valid-sound t v).steady in let g = gap-max (wave_of t (mode_of t)) (moving_of t) y in let m = y.most in rw gap_is (omega arith)

  start-tick : tick_in p (start_of h) ≡ first
  start-tick = rw (next-tick, gap_is) (omega arith)

  start-moving : (run_in p dir odo first (start_of h)).moving ≡ moving_of t
  start-moving = λ i. record { counter = record { count = t.counter.count; direction = dir; blocked = sym a.free i; odometer = z i }; ocr = t.ocr; oc = t.oc; drives = t.drives; tifr = t.flags.tifr }
    where
      z : counted odo (tick_in p (start_of h) - first) ≡ odo
      z = let l = v.odometer in rw start-tick (omega arith)

  apart : Apart s
  unfolding setting_at wave_of channel_of
  apart = apart_of t.config s v.accepted (record { tov = refl; a = refl; b = refl; c = refl; icf = refl; has-a = refl; has-b = refl; has-c = refl; capture = refl })

  pub start-known : Known s p dir odo first (start_of h)
  unfolding setting_at flags_ahead
  start-known = record {
    kind = a.kind;
    apart = apart;
    sound = rw start-moving (valid-sound t v);
    gap = gap_is ∙ ap (λ (m : Moving). gap (wave_of t (mode_of t)) m.counter t.ocr) (sym start-moving);
    top = a.kept.top;
    flags = flags-are ∙ λ i. raised s (events_of s (linear (wave_of t (mode_of t)) (sym gap_is i) (sym start-moving i)));
    aligned = ap (cycle_at p) next-tick ∙ sym next-is;
    due = rw (gap_is, next-tick) (omega arith);
    since = rw start-tick (omega arith);
  }

  shift-few : h.shift ≤ 10
  shift-few = power-few h.shift (rw power at (divisor-max t))
    where
      power-few : (k : ℕ) → 2 ^ k ≤ 1024 → k ≤ 10
      power-few k l = go (dec_lt k 11)
        where
          go : Dec (k < 11) → k ≤ 10
          go (yes m) = omega arith
          go (no m) = let w : 2 ^ 11 ≤ 2 ^ k = pow-le-pow_right {n = 2} (omega arith) {i = 11} {j = k} (omega (arith, m)) in absurd (omega arith)

  pub start_fits : Fit h.scene h.shift (start_of h) room
  start_fits = rw a.kept.scene (known-fits start-known shift-few (omega arith))

  -- ---- where it ends: at a cycle before the next event, and at or after where the events left it
  module _ {b : Rise} (k : Known s p dir odo first b) where
    -- what the events left
    abbrev left : Moving
    left = (run_in p dir odo first b).moving

    rises : falls (wave_of t (mode_of t)) left.counter ≡ false
    unfolding falls
    rises = let l = leb-true (wave_of t (mode_of t)).kind F a.kind in simp (lt-leb P (wave_of t (mode_of t)).kind (omega arith))

    event-tick : ticks_at p b.next ≡ tick_in p b + (b.gap + 1)
    event-tick = let l = k.due in omega arith

    event-cycle : b.next ≡ cycle_at p (tick_in p b + (b.gap + 1))
    event-cycle = sym k.aligned ∙ ap (cycle_at p) event-tick

    -- a tick before it
    event-last : b.next ≡ cycle_at p (tick_in p b + b.gap) + divisor_of t
    event-last = let f : tick_in p b + (b.gap + 1) ≡ tick_in p b + b.gap + 1 = omega arith in event-cycle ∙ ap (cycle_at p) f ∙ cycle-next p divides (tick_in p b + b.gap)

    pub shift-under : 2 ^ h.shift ≤ b.next
    shift-under = let e = event-last in rw (← power) (omega arith)

    pub sync-under : sync < b.next
    sync-under =
        let u = tick-after p divides sync in
        let l = k.since in
        let w = cycle-mono p (first + 1) (tick_in p b + (b.gap + 1)) (omega arith) in
        rw event-cycle (omega arith)

    module _ {end : ℕ} (late : sync ≤ end) (before : end < b.next) (on : tick_in p b ≤ ticks_at p end) where
      abbrev n : ℕ
      n = ticks_at p end - tick_in p b

      end_below : ticks_at p end < tick_in p b + (b.gap + 1)
      end_below = ticks-below p divides end (tick_in p b + (b.gap + 1)) (rw event-cycle at before) (omega arith)

      on-gap : n ≤ b.gap
      on-gap = let l = end_below in omega arith

      pub left_is : (b.next - 1 - end) / 2 ^ h.shift ≡ b.gap - n
      left_is =
          let o = v.origin in
          let e = ticks-left p divides end (tick_in p b + (b.gap + 1)) (omega arith) (rw event-cycle at before) (omega arith) in
          let f : tick_in p b + (b.gap + 1) - 1 - ticks_at p end ≡ b.gap - n = (let l = end_below in omega arith) in
          rw (← power) (ap (λ (x : ℕ). (x - 1 - end) / divisor_of t) event-cycle ∙ e ∙ f)

      -- the ticks from the old sync cycle are those of the events and those after them
      odometer-on : counted odo (ticks_to t.clock h.shift end) ≡ counted (counted odo (tick_in p b - first)) n
      unfolding ticks_to ticks_at
      odometer-on = let l = k.since in rw (← power) (omega arith)

      count-on : b.count + (b.gap - (b.next - 1 - end) / 2 ^ h.shift) ≡ moved (falls (wave_of t (mode_of t)) left.counter) b.count n
      unfolding moved
      count-on = let l = on-gap in rw (left_is, rises) (omega arith)

      module _ (reply : Reply) where
        abbrev risen : Held
        risen = risen_in h (risen_of h b end reply)

        risen-timer : risen.timer ≡ sync_to (settle t (linear (wave_of t (mode_of t)) n left)) end
        unfolding sync_to linear
        risen-timer = λ i. record {
          config = t.config;
          counter = record { count = count-on i; direction = dir; blocked = a.free i; odometer = odometer-on i };
          ocr = b.ocr;
          buffer = t.buffer;
          oc = b.oc;
          drives = b.drives;
          registers = t.registers;
          flags = record { tifr = b.tifr; timsk = t.flags.timsk };
          clock = record { sync = record { 0 = end }; origin = t.clock.origin; latest = record { 0 = max t.clock.latest.0 end } };
          halts = t.halts;
        }

        -- quiet ticks that have passed no longer lie ahead
        gap-after : gap (wave_of t (mode_of t)) (linear (wave_of t (mode_of t)) n left).counter b.ocr ≡ b.gap - n
        unfolding linear setting_at
        gap-after = let g = k.gap in gap-shrinks (wave_of t (mode_of t)) left.counter b.ocr n (let l = on-gap in omega arith) ∙ rw (← g) refl

        next-at : next_at (sync_to (settle t (linear (wave_of t (mode_of t)) n left)) end) ≡ b.next
        unfolding next_at wave_of mode_of divisor_of sync_to linear
        next-at = let l = on-gap in let e : ticks_at p end + (b.gap - n + 1) ≡ tick_in p b + (b.gap + 1) = omega arith in ap (λ (x : ℕ). cycle_at p (ticks_at p end + (x + 1))) gap-after ∙ ap (cycle_at p) e ∙ sym event-cycle

        flags-at : let u = sync_to (settle t (linear (wave_of t (mode_of t)) n left)) end in flags_ahead (setting_of u) (moving_of u) ≡ b.flags
        unfolding flags_ahead setting_at wave_of mode_of sync_to linear
        flags-at = ap (λ (x : ℕ). raised s (events_of s (linear (wave_of t (mode_of t)) x (linear (wave_of t (mode_of t)) n left)))) gap-after
            ∙ ap (λ (m : Moving). raised s (events_of s m)) (linear-on (wave_of t (mode_of t)) n b.gap left on-gap)
            ∙ sym k.flags

        next-of : next_of risen.timer ≡ next.At (record { 0 = b.next }) b.flags
        unfolding next_of running_of divisor_of held_of sync_to
        next-of = ap next_of risen-timer ∙ rw (a.runs, next-at, flags-at) refl

        pub risen-kept : Valid risen.timer → Kept risen
        unfolding code_of flags_in running_of divisor_of held_of mode_of wave_of falls setting_at
        risen-kept w = record {
          valid = w;
          next = sym (ap code_of next-of);
          flags = sym (ap flags_in next-of);
          shift = a.kept.shift;
          idle = a.kept.idle;
          small = a.kept.small;
          down = a.kept.down;
          scene = a.kept.scene;
          top = k.top;
        }

        -- an advance whose run ends there
        advances : (paused : Bool) (at : ℕ) {area after : List ℕ} → length after ≡ length area → b.to ≤ length area → drop b.to after ≡ drop b.to area
            → ticks s p (within area) (due t cycle) (start t) ≡ record { moving = linear (wave_of t (mode_of t)) n left; at = at; bytes = take b.to after; paused = paused }
            → end ≡ cond paused (max sync (cycle_at p at)) cycle
            → Advances (advanced ticks t cycle (length area)) area (record { timer = risen.timer; written = b.to; paused = paused }) after
        unfolding advanced passed sync_of
        advances paused at {area} {after} l o d e y =
            let m = length-take-le b.to after (omega arith) in
            let f : risen.timer ≡ (advanced ticks t cycle (length area)).timer = risen-timer ∙ rw (e, ← y) refl in
            record {
              timer = f;
              written = rw e (sym m);
              paused = rw e;
              area = rw (e, m, ← d) (sym (take-append-drop b.to after));
              valid = rw f (advance-keeps t cycle (length area) v a.timely a.below);
            }

  -- ---- the answers
  -- the run that is due begins where the rise does
  begun : (area : List ℕ) → ticks s p (within area) (due t cycle) (start t) ≡ ticks s p (within area) (ticks_at p cycle - tick_in p (start_of h)) (standing (run_in p dir odo first (start_of h)) area)
  unfolding due start
  begun area = rw a.runs (λ i. ticks s p (within area) (ticks_at p cycle - sym start-tick i) (record { moving = sym start-moving i; at = sym start-tick i; bytes = []; paused = false }))

  sync-in : sync ≤ cycle
  sync-in = let x = v.sync in let y = a.timely in omega arith

  module _ {b : Rise} {area after : List ℕ} (r : Rose s p dir odo first (start_of h) cycle area b after) (same : length after ≡ length area) where
    -- it came to its cycle
    pub came-serves : cycle < b.next → let x = replied 0 6 0 b.to b.next b.flags in Serves (answered ticks t call.Advance cycle area) (risen_in h (risen_of h b cycle x)) x after
    unfolding late quiet setting_at
    came-serves l =
        let x : Reply = replied 0 6 0 b.to b.next b.flags in
        let o = r.reached l in
        let g = advances r.known sync-in l o.0 x false (ticks_at p cycle) {area = area} {after = after} same r.room r.left (run o.0 o.1) refl in
        told-serves (came t cycle area {n = 0} {f = next_flags (risen_in h (risen_of h b cycle x)).timer} v (sym a.late) refl g refl refl) refl (risen-kept r.known sync-in l o.0 x g.valid) refl
      where
        run : tick_in p b ≤ ticks_at p cycle
            → ticks s p (within area) (ticks_at p cycle - tick_in p b) (standing (run_in p dir odo first b) after) ≡ ticks s p (within area) (ticks_at p cycle - tick_in p (start_of h)) (standing (run_in p dir odo first (start_of h)) area)
            → ticks s p (within area) (due t cycle) (start t) ≡ record { moving = linear (wave_of t (mode_of t)) (ticks_at p cycle - tick_in p b) (left r.known); at = ticks_at p cycle; bytes = take b.to after; paused = false }
        run u e =
            let m = length-take-le b.to after (let z = r.room in omega arith) in
            let z : tick_in p b + (ticks_at p cycle - tick_in p b) ≡ ticks_at p cycle = omega arith in
            let w = on-gap r.known sync-in l u in
            let q = r.known.gap in
            begun area ∙ sym e
            ∙ quiet-ticks s p (within area) (ticks_at p cycle - tick_in p b) (standing (run_in p dir odo first b) after) (record { sound = r.known.sound; fit = le-leb _ (length area) (let y = r.room in omega arith) }) refl (omega arith)
            ∙ rw z refl

    -- or it stopped before an event whose records do not fit
    module _ (l : b.next ≤ cycle) where
      abbrev last : ℕ
      last = max sync (b.next - 2 ^ h.shift)

      last-is : b.next - 2 ^ h.shift ≡ cycle_at p (tick_in p b + b.gap)
      last-is = let e = event-last r.known in rw (← power) (omega arith)

      last-below : last < b.next
      last-below = let u = sync-under r.known in let d = divides in let e = event-last r.known in let f = last-is in omega arith

      last-tick : ticks_at p last ≡ tick_in p b + b.gap
      last-tick =
          let e = last-is in
          let f : tick_in p b + (b.gap + 1) ≡ tick_in p b + b.gap + 1 = omega arith in
          let g : b.next ≡ cycle_at p (tick_in p b + b.gap + 1) = event-cycle r.known ∙ ap (cycle_at p) f in
          let w = last-below in
          let u : last < cycle_at p (tick_in p b + b.gap + 1) = omega arith in
          ticks-between p divides last (tick_in p b + b.gap) (omega arith) u

      pub stopped-serves : let x = replied 0 4 last b.to b.next b.flags in Serves (answered ticks t call.Advance cycle area) (risen_in h (risen_of h b last x)) x after
      unfolding late setting_at
      stopped-serves =
          let x : Reply = replied 0 4 last b.to b.next b.flags in
          let u : sync ≤ last = omega arith in
          let w : tick_in p b ≤ ticks_at p last = (let z = last-tick in omega arith) in
          let e : ticks_at p last - tick_in p b ≡ b.gap = (let z = last-tick in omega arith) in
          let y : last ≡ max sync (cycle_at p (tick_in p b + b.gap)) = ap (max sync) last-is in
          let g = advances r.known u last-below w x true (tick_in p b + b.gap) {area = area} {after = after} same r.room r.left (run e) y in
          told-serves (stopped t cycle area {n = 0} {f = next_flags (risen_in h (risen_of h b last x)).timer} v (sym a.late) refl g refl refl) refl (risen-kept r.known u last-below w x g.valid) refl
        where
          run : ticks_at p last - tick_in p b ≡ b.gap
              → ticks s p (within area) (due t cycle) (start t) ≡ record { moving = linear (wave_of t (mode_of t)) (ticks_at p last - tick_in p b) (left r.known); at = tick_in p b + b.gap; bytes = take b.to after; paused = true }
          run e = begun area ∙ r.stopped l ∙ rw e refl

  -- ---- what the code asks of its numbers
  pub start-asked : (h.shift < 64) × (sync < h.next) × ((start_of h).gap < 2 ^ 32)
  start-asked = (a.kept.small, sync-below, gap-small)

  pub rising-asked : (Fit h.scene h.shift (start_of h) room) × (h.next ≤ cycle) × (cycle < 2 ^ 63) × (0 + 110 ≤ room)
  rising-asked = (start_fits, a.due, (let l = a.below in omega arith), (let l = a.bytes in omega arith))

  pub rose : {b : Rise} {area after : List ℕ} → EveryRun h.scene h.shift (start_of h) (λ s p d o first. Rose s p d o first (start_of h) cycle area b after) → Rose s p dir odo first (start_of h) cycle area b after
  rose q = q s p dir odo first a.kept.scene power start-known

  shl_is : (1 * 2 ^ h.shift) % 2 ^ 64 ≡ 2 ^ h.shift
  shl_is = shl_exact {a = 1} 1 h.shift 64 (omega arith) (let l = shift-few in omega arith) ∙ one-mul (2 ^ h.shift)

  -- the end that the code takes: of a stopped run the later of the old sync cycle and the tick before the event
  abbrev pub EndsAt : Rise → ℕ → Type 0
  EndsAt b end = ((leb b.next cycle ≡ true) × (end ≡ max sync (b.next - (1 * 2 ^ h.shift) % 2 ^ 64))) ⊎ ((leb b.next cycle ≡ false) × (end ≡ cycle))

  abbrev pub Replies : Rise → ℕ → Reply → Type 0
  Replies b end x = ((leb b.next cycle ≡ true) × (x ≡ replied 0 4 end b.to b.next b.flags)) ⊎ ((leb b.next cycle ≡ false) × (x ≡ replied 0 6 0 b.to b.next b.flags))

  -- it lies from the old sync cycle on, before the next event, and where the events left the count or after it
  record Stands (b : Rise) (end : ℕ) : Type 0 where
    pub later : sync ≤ end
    pub under : end < b.next
    pub on : tick_in p b ≤ ticks_at p end

  module _ {b : Rise} {area after : List ℕ} (r : Rose s p dir odo first (start_of h) cycle area b after) where
    pub shl-under : (1 * 2 ^ h.shift) % 2 ^ 64 ≤ b.next
    shl-under = rw shl_is (shift-under r.known)

    pub event-positive : 1 ≤ b.next
    event-positive = let l = sync-under r.known in omega arith

    module _ (same : length after ≡ length area) {end : ℕ} (e : EndsAt b end) where
      stands : Stands b end
      stands = ⊎_elim
          (λ x. let q : end ≡ last r same (leb-true _ _ x.0) = rw shl_is at x.1 in
          let z = last-tick r same (leb-true _ _ x.0) in
          let u = last-below r same (leb-true _ _ x.0) in
          rw q (record { later = omega arith; under = u; on = omega arith }))
          (λ x. let l = leb-false _ _ x.0 in rw x.1 (record { later = sync-in; under = l; on = (r.reached l).0 }))
          e

      pub end-under : end ≤ b.next - 1
      end-under = let l = stands.under in omega arith

      pub end-origin : t.clock.origin.0 ≤ end
      end-origin = let l = stands.later in let o = v.origin in omega arith

      pub left-upto : (b.next - 1 - end) / 2 ^ h.shift ≤ b.gap
      left-upto = let q = left_is r.known stands.later stands.under stands.on in rw q (omega arith)

      pub left-small : (b.next - 1 - end) / 2 ^ h.shift < 2 ^ 32
      unfolding setting_at
      left-small =
          let y = r.known.sound.steady in
          let g = gap-max (wave_of t (mode_of t)) (left r.known) y in
          let m = y.most in
          let k = r.known.gap in
          let l = left-upto in
          omega arith

      pub ticks-on : (sync - t.clock.origin.0) / 2 ^ h.shift ≤ (end - t.clock.origin.0) / 2 ^ h.shift
      ticks-on = let l = stands.later in div_mono _ _ h.shift (omega arith)

      -- the answer
      pub rising-serves : {x : Reply} → Replies b end x → Serves (answered ticks t call.Advance cycle area) (risen_in h (risen_of h b end x)) x after
      rising-serves {x} w = ⊎_elim
          (λ y. ⊎_elim
          (λ z. let q : end ≡ last r same (leb-true _ _ y.0) = rw shl_is at y.1 in rw (z.1, q) (stopped-serves r same (leb-true _ _ y.0)))
          (λ z. absurd (both (leb b.next cycle) y.0 z.0))
          w)
          (λ y. ⊎_elim (λ z. absurd (both (leb b.next cycle) z.0 y.0)) (λ z. rw (z.1, y.1) (came-serves r same (leb-false _ _ y.0))) w)
          e
        where
          both : (c : Bool) → c ≡ true → c ≡ false → ⊥
          both true m n = let z : ◌≡◌ {A = ℕ} 1 0 = ap (λ (x : Bool). cond x 1 0) n in omega arith
          both false m n = let z : ◌≡◌ {A = ℕ} 0 1 = ap (λ (x : Bool). cond x 1 0) m in omega arith
