-- Time that passes below the next event, of what is kept of a timer.
use Prim.Native.Nat.{ℕ, ◌+◌, ◌-◌, ◌/◌, ◌%◌, ◌≤◌, ◌<◌, ◌^◌, max}
use native.Mathlib.Omega.{arith}
use native.Mathlib.Nat.{div-eq_of_lt}
use mathlib.Core.Path.{◌≡◌, refl, sym, ap, subst, ◌∙◌}
use mathlib.Core.Bool.{Bool, true, false, cond, not, ◌&&◌}
use mathlib.Core.List.{List, []}
use lib.Dec.{eqb, leb, ltb, leb-zero}
use lib.ListN.{length}
use borrow.Author.Tests.{eq-eqb, leb-false, ltb-false, le-ltb, lt-leb, ne_eqb}
use Rattle.config.specs.Config.{place_of, pair_at}
use Rattle.time.specs.Units.{ticks_at}
use Rattle.wave.specs.Count.{falls}
use Rattle.tick.specs.Skip.{linear}
use Rattle.tick.proofs.Bounds.{gap-moves}
use Rattle.passage.specs.Passage.{ticks, quiet}
use Rattle.passage.proofs.Runs.{quiet-ticks}
use Rattle.counter.specs.declared.state.Timer.{Timer}
use Rattle.counter.specs.Modes.{mode_of, wave_of, divisor_of, held_of, running_of, max_at}
use Rattle.counter.specs.Setting.{setting_at, moving_of}
use Rattle.counter.specs.Halts.{latest_to}
use Rattle.counter.specs.Next.{next_at, next_of, next_flags}
use Rattle.counter.specs.Passage.{Passed, due, start, sync_to, sync_of, passed, advanced}
use Rattle.counter.specs.Registers.{word_of, peeked, read_value, read_timer, temp_to}
use Rattle.counter.specs.Valid.{Valid}
use Rattle.counter.proofs.Bounds.{valid-sound}
use Rattle.counter.proofs.Clocks.{due-gap}
use Rattle.counter.proofs.Lasting.{advance-keeps}
use Rattle.counter.proofs.Runs.{start-kept}
use Rattle.answers.specs.declared.Answer.TheVariants as answer
use Rattle.answers.specs.Answers.{byte, reached, given, turned}
use Rattle.answers.specs.Refusals.{late, refusal}
use Rattle.timer.specs.declared.calls.Call.{Call}
use Rattle.timer.specs.declared.calls.Call.TheVariants as call
use Rattle.timer.specs.Calls.{answered, performed, moved as advancing, asks, works, says, refusal_of}
use Rattle.timer.proofs.Outcomes.{Ready, in-time, plainly}
use Rattle.held.specs.declared.state.Held.{Held}
use Rattle.held.specs.declared.reply.Reply.{Reply}
use Rattle.held.specs.declared.quick.Counted.{Counted}
use Rattle.held.specs.declared.quick.Stilled.{Stilled}
use Rattle.held.specs.Held.{Kept, code_of, flags_in}
use Rattle.held.specs.Reply.{replied, Serves, Served, count_low, count_high}
use Rattle.held.specs.Quick.{refusing, ticks_to, stilled, Passing, counting}
use Rattle.held.proofs.Laws.{after, synced-quietly, next-of}
use Rattle.held.proofs.Puts.{latest_in, temp_in, counter_in, clock_in}
use Rattle.held.proofs.Answers.{Timed, refusal_is, plain-serves, refused-serves, serves-of, kept-latest}

-- a call in time that passes no event
pub record Quiet (h : Held) (cycle : ℕ) : Type 0 where
  pub kept : Kept h
  pub timely : h.timer.clock.latest.0 ≤ cycle
  pub below : cycle < 2 ^ 62
  pub quiet : cycle < h.next

pub quiet-in : (h : Held) (cycle : ℕ) → Kept h → refusing true h.timer.clock.latest.0 h.next cycle ≡ 0 → Quiet h cycle
unfolding refusing
quiet-in h cycle k = go (ltb (2 ^ 62 - 1) cycle) (ltb cycle h.timer.clock.latest.0) (leb h.next cycle) refl refl refl
  where
    go : (a b c : Bool) → ltb (2 ^ 62 - 1) cycle ≡ a → ltb cycle h.timer.clock.latest.0 ≡ b → leb h.next cycle ≡ c
        → ◌≡◌ {A = ℕ} (cond (not (eqb (cond {A = ℕ} a 2 (cond b 3 0)) 0)) (cond a 2 (cond b 3 0)) (cond (true && c) 6 0)) 0 → Quiet h cycle
    go true b c p q r e = let z : ◌≡◌ {A = ℕ} 2 0 = e in absurd (omega arith)
    go false true c p q r e = let z : ◌≡◌ {A = ℕ} 3 0 = e in absurd (omega arith)
    go false false true p q r e = let z : ◌≡◌ {A = ℕ} 6 0 = e in absurd (omega arith)
    go false false false p q r e = record { kept = k; timely = ltb-false _ _ q; below = omega (arith, ltb-false (2 ^ 62 - 1) cycle p); quiet = leb-false _ _ r }

pub flags-next : (t : Timer) → flags_in (next_of t) ≡ next_flags t
unfolding flags_in next_of next_flags
flags-next t = go (running_of t) refl
  where
    go : (b : Bool) → running_of t ≡ b → flags_in (next_of t) ≡ next_flags t
    go true e = rw e refl
    go false e = rw e refl

-- the count's low byte is the first register
low-place : (t : Timer) → place_of t.config t.config.tcnt ≡ 0
unfolding place_of pair_at
low-place t = simp (eq-eqb t.config.tcnt t.config.tcnt refl)

pub low-timed : (t : Timer) → Timed t (count_low t) true
unfolding asks
low-timed t = record { absent = rw (low-place t) refl; wrong = refl; halted = refl; tests = rw (low-place t) refl }

module _ (h : Held) (cycle : ℕ) (k : Quiet h cycle) where
  abbrev t : Timer
  t = h.timer

  -- no event lies at or before the cycle
  below : running_of t ≡ true → cycle < next_at t
  unfolding code_of next_of
  below e = let q : h.next ≡ next_at t = k.kept.next ∙ rw e refl in let l = k.quiet in omega arith

  sync-before : t.clock.sync.0 ≤ cycle
  sync-before = let l = k.kept.valid.sync in let m = k.timely in omega arith

  -- the ticks by the shift are those due
  ticks-due : ticks_to t.clock h.shift cycle ≡ due t cycle
  unfolding ticks_to due ticks_at
  ticks-due = go (running_of t) refl
    where
      none_in : (x : ℕ) → x < 2 ^ 63 → x / 2 ^ 63 ≡ 0
      none_in x l = div-eq_of_lt l

      go : (b : Bool) → running_of t ≡ b → ticks_to t.clock h.shift cycle ≡ due t cycle
      go true e = rw (e, k.kept.shift e) refl
      go false e =
          let l = k.below in let s = sync-before in
          let a : (cycle - t.clock.origin.0) / 2 ^ 63 ≡ 0 = none_in (cycle - t.clock.origin.0) (omega arith) in
          let b : (t.clock.sync.0 - t.clock.origin.0) / 2 ^ 63 ≡ 0 = none_in (t.clock.sync.0 - t.clock.origin.0) (omega arith) in
          rw (e, k.kept.idle e, a, b) refl

  -- what the core asks
  pub still-asks : Passing t.counter t.clock h.shift h.down cycle
  unfolding setting_at wave_of max_at
  still-asks =
      let s = valid-sound t k.kept.valid in
      let c = s.steady.count in
      let m = s.steady.most in
      record {
        small = k.kept.small;
        began = k.kept.valid.origin;
        later = sync-before;
        room = rw ticks-due (gap-moves (wave_of t (mode_of t)) (moving_of t) (due t cycle) h.down s.steady (due-gap t cycle k.kept.valid sync-before below) k.kept.down);
        low = omega arith;
        turns = k.kept.valid.turns;
      }

  -- the advance is one linear step
  advanced-quietly : (room : ℕ) → advanced ticks t cycle room ≡ record { timer = after t cycle k.kept.valid sync-before below; bytes = []; paused = false }
  unfolding advanced passed quiet start sync_of setting_at
  advanced-quietly room = ap (passed t cycle) (quiet-ticks _ _ _ _ _ (start-kept (λ j. leb j room) t k.kept.valid (leb-zero room)) refl (due-gap t cycle k.kept.valid sync-before below))

  abbrev s : Stilled
  s = stilled t.counter t.clock h.shift h.down cycle

  abbrev pub stored : Held
  stored = clock_in (counter_in h s.counter) s.clock

  -- it is what is stored
  stored_is : stored.timer ≡ after t cycle k.kept.valid sync-before below
  unfolding stilled linear sync_to
  stored_is = let m : max t.clock.latest.0 cycle ≡ cycle = let l = k.timely in omega arith in rw (m, ticks-due, k.kept.down) refl

  stored-valid : Valid stored.timer
  stored-valid = rw stored_is (rw (advanced-quietly 0) at (advance-keeps t cycle 0 k.kept.valid k.timely k.below))

  stored_next : next_of stored.timer ≡ next_of t
  stored_next = ap next_of stored_is ∙ next-of t cycle k.kept.valid sync-before below

  pub stored-kept : Kept stored
  unfolding running_of divisor_of held_of mode_of wave_of falls stilled setting_at
  stored-kept = record {
    valid = stored-valid;
    next = k.kept.next ∙ ap code_of (sym stored_next);
    flags = k.kept.flags ∙ ap flags_in (sym stored_next);
    shift = k.kept.shift;
    idle = k.kept.idle;
    small = k.kept.small;
    down = k.kept.down;
    scene = k.kept.scene;
    top = k.kept.top;
  }

  -- a call that lets time pass works on it
  pub stored-ready : (c : Call) (area : List ℕ) → refusal_of t c cycle ≡ 0 → (asks t c).advances ≡ false → (asks t c).syncs ≡ true → Ready t c cycle area stored.timer
  stored-ready c area e a y =
      let q = synced-quietly t cycle k.kept.valid sync-before below in
      in-time t c cycle area {x = stored.timer} k.kept.valid (sym e) refl a y (stored_is ∙ ap (λ (z : Passed). z.timer) (sym q), ap (λ (z : Passed). z.bytes) q, stored-valid)

  -- ---- the advance
  advance-in-time : refusal_of t call.Advance cycle ≡ 0
  unfolding refusal_of asks refusal late
  advance-in-time = let l = k.timely in let m = k.below in simp (le-ltb (2 ^ 62 - 1) cycle (omega arith), le-ltb cycle t.clock.latest.0 l)

  advance-is : (area : List ℕ) → answered ticks t call.Advance cycle area ≡ given stored.timer (reached (next_flags stored.timer)) [] area
  unfolding answered performed advancing asks
  advance-is area = simp (advance-in-time, advanced-quietly (length area), ← stored_is)

  pub advance-quiet : Served t call.Advance cycle stored (replied 0 6 0 0 h.next h.flags)
  advance-quiet area = rw (advance-is area) (record {
    timer = refl;
    reply = λ i. replied 0 6 0 0 (stored-kept.next i) (stored-kept.flags i);
    area = refl;
    kept = stored-kept;
  })

  -- ---- the count's low byte
  -- what it leaves
  abbrev left : Held
  left = temp_in stored (cond t.config.wide (s.counter.count / 256 % 256) t.registers.temp)

  left_is : left.timer ≡ latest_to (works (after t cycle k.kept.valid sync-before below) (count_low t) cycle).timer cycle
  unfolding works read_timer word_of stilled
  left_is = rw (← stored_is, low-place t) (go t.config.wide)
    where
      go : (b : Bool) → temp_to stored.timer (cond b (s.counter.count / 256 % 256) t.registers.temp) ≡ latest_to (cond b (temp_to stored.timer (s.counter.count / 256 % 256)) stored.timer) cycle
      go true = refl
      go false = refl

  left-valid : Valid left.timer
  unfolding stilled
  left-valid =
      let v = stored-valid in
      record {
        accepted = v.accepted;
        count = v.count;
        turns = v.turns;
        odometer = v.odometer;
        compares = v.compares;
        buffers = v.buffers;
        icr = v.icr;
        temp = go t.config.wide v.temp;
        origin = v.origin;
        sync = v.sync;
        latest = v.latest;
        slept = v.slept;
      }
    where
      go : (b : Bool) → t.registers.temp < 256 → cond b (s.counter.count / 256 % 256) t.registers.temp < 256
      go true l = omega arith
      go false l = l

  left-kept : Kept left
  unfolding next_of next_at running_of divisor_of held_of mode_of wave_of falls setting_at
  left-kept = let g = stored-kept in record { valid = left-valid; next = g.next; flags = g.flags; shift = g.shift; idle = g.idle; small = g.small; down = g.down; scene = g.scene; top = g.top }

  pub low-serves : Served t (count_low t) cycle left (replied 0 1 (s.counter.count % 256) 0 h.next h.flags)
  unfolding asks works says read_value peeked word_of stilled refusing
  low-serves area =
      let x : Timer = after t cycle k.kept.valid sync-before below in
      let q = synced-quietly t cycle k.kept.valid sync-before below in
      let y = in-time t (count_low t) cycle area {x = x} k.kept.valid (sym in-time-low) refl refl (rw (low-place t) refl) (ap (λ (z : Passed). z.timer) (sym q), ap (λ (z : Passed). z.bytes) q, rw (← stored_is) stored-valid) in
      let w = plainly t (count_low t) cycle area y (works x (count_low t) cycle).timer {a = answer.Value (s.counter.count % 256)} refl refl says-low refl refl in
      serves-of {g = left} w left_is left-kept
    where
      in-time-low : refusal_of t (count_low t) cycle ≡ 0
      in-time-low =
          let l = k.timely in let m = k.below in let n = k.quiet in
          refusal_is h (count_low t) cycle k.kept (low-timed t) ∙ simp (le-ltb (2 ^ 62 - 1) cycle (omega arith), le-ltb cycle t.clock.latest.0 l, lt-leb h.next cycle n)

      says-low : byte (s.counter.count % 256) ≡ says (after t cycle k.kept.valid sync-before below) (count_low t)
      says-low = rw (← stored_is, low-place t) refl

-- ---- the two bytes of the count
module _ (h : Held) (cycle : ℕ) (k : Kept h) where
  abbrev u : Timer
  u = h.timer

  -- the timer with its cycle accepted
  abbrev g : Held
  g = latest_in h cycle

  abbrev r : Counted
  r = counting g.timer.counter g.timer.clock u.config.wide u.registers.temp h.shift h.down cycle

  pub count-asks : refusing true u.clock.latest.0 h.next cycle ≡ 0 → Passing g.timer.counter g.timer.clock h.shift h.down cycle
  unfolding ticks_to
  count-asks e = let p = still-asks h cycle (quiet-in h cycle k e) in record { small = p.small; began = p.began; later = p.later; room = p.room; low = p.low; turns = p.turns }

  pub low-right : refusing true u.clock.latest.0 h.next cycle ≡ 0 → Served u (count_low u) cycle (temp_in (clock_in (counter_in g r.counter) r.clock) r.temp) (replied 0 1 r.byte 0 h.next h.flags)
  unfolding counting stilled ticks_to
  low-right e = low-serves h cycle (quiet-in h cycle k e)

  high-place : u.config.wide ≡ true → place_of u.config (u.config.tcnt + 1) ≡ 1
  unfolding place_of pair_at
  high-place e = simp (e, ne_eqb (u.config.tcnt + 1) u.config.tcnt (λ z. omega arith), eq-eqb (u.config.tcnt + 1) (u.config.tcnt + 1) refl)

  high-timed : u.config.wide ≡ true → Timed u (call.Read (u.config.tcnt + 1)) false
  unfolding asks
  high-timed e = record { absent = rw (high-place e) refl; wrong = refl; halted = refl; tests = rw (high-place e) refl }

  at_wide : u.config.wide ≡ true → {area : List ℕ} {x : Held} {p : Reply} → Serves (answered ticks u (call.Read (u.config.tcnt + 1)) cycle area) x p area → Serves (count_high u cycle area) x p area
  at_wide w {area} {x} {p} s = subst (λ (b : Bool). Serves (cond b (answered ticks u (call.Read (u.config.tcnt + 1)) cycle area) (turned 4 u area)) x p area) (sym w) s

  pub high-serves : u.config.wide ≡ true → refusing false u.clock.latest.0 h.next cycle ≡ 0 → (area : List ℕ) → Serves (count_high u cycle area) g (replied 0 1 u.registers.temp 0 h.next h.flags) area
  unfolding asks works says read_value read_timer
  high-serves w e area = at_wide w (plain-serves h (call.Read (u.config.tcnt + 1)) cycle {u = u} {a = answer.Value u.registers.temp} k (refusal_is h (call.Read (u.config.tcnt + 1)) cycle k (high-timed w) ∙ e)
      (record { advances = refl; syncs = rw (high-place w) refl; timer = rw (high-place w) refl; log = refl; values = rw (high-place w) refl; number = refl }) refl (kept-latest h cycle k) area)

  pub high-turned : u.config.wide ≡ true → (n : ℕ) → n ≡ refusing false u.clock.latest.0 h.next cycle → eqb n 0 ≡ false → (area : List ℕ) → Serves (count_high u cycle area) h (replied n 5 0 0 0 0) area
  high-turned w n e z area = at_wide w (refused-serves h cycle k (call.Read (u.config.tcnt + 1)) n (high-timed w) e z area)

  pub high-narrow : u.config.wide ≡ false → (area : List ℕ) → Serves (count_high u cycle area) h (replied 4 5 0 0 0 0) area
  high-narrow w area = subst (λ (b : Bool). Serves (cond b (answered ticks u (call.Read (u.config.tcnt + 1)) cycle area) (turned 4 u area)) h (replied 4 5 0 0 0 0) area) (sym w) (record { timer = refl; reply = refl; area = refl; kept = k })
