-- A capture, of what is kept of a timer: it moves ICRn, which is not TOP, and TIFR.
use Prim.Native.Nat.{ℕ, ◌+◌, ◌≤◌}
use native.Mathlib.Omega.{arith}
use mathlib.Core.Bool.{Bool, true, false, cond, not, ◌&&◌}
use mathlib.Core.List.{List}
use mathlib.Core.Path.{◌≡◌, refl, sym, ap, subst, ◌∙◌}
use lib.Dec.{eqb, leb}
use lib.ListN.{length, get_or, take}
use lib.Seq.{sets}
use borrow.Author.Tests.{eqb-true, eqb-false, not-false}
use Rattle.time.specs.Units.{ticks_at, cycle_at}
use Rattle.wave.specs.declared.kinds.Wave.{Wave}
use Rattle.wave.specs.Kinds.{I}
use Rattle.wave.specs.Count.{falls, top_of, at_top, at_zero, overflows, loads}
use Rattle.wave.specs.Distance.{gap}
use Rattle.tick.specs.Distance.{flags_ahead}
use Rattle.tick.specs.Skip.{linear}
use Rattle.tick.specs.Tick.{events_at, raised}
use Rattle.scene.specs.Scene.{scene_of}
use Rattle.counter.specs.declared.advance.Logged.{Logged}
use Rattle.counter.specs.declared.next.Next.TheVariants as next
use Rattle.counter.specs.declared.state.Timer.{Timer}
use Rattle.counter.specs.Capture.{captures, captured}
use Rattle.counter.specs.Halts.{latest_to}
use Rattle.counter.specs.Logs.{Logs}
use Rattle.counter.specs.Modes.{source_at, mode_of, wave_of, divisor_of, prescaler_of, held_of, running_of}
use Rattle.counter.specs.Next.{next_at, next_of}
use Rattle.counter.specs.Parts.{flags_to}
use Rattle.counter.specs.Registers.{icr_to}
use Rattle.counter.specs.Setting.{setting_at, setting_of, moving_of}
use Rattle.counter.specs.Valid.{Valid}
use Rattle.counter.proofs.Bounds.{source-max}
use Rattle.timer.specs.declared.calls.Call.TheVariants as call
use Rattle.timer.specs.Calls.{is_pin, edge_captures, output_captures, asks, works, says}
use Rattle.timer.proofs.Outcomes.{same-edge, same-output}
use Rattle.outlook.proofs.Untouched.{top-icr, gap-icr, other-top}
use Rattle.held.specs.declared.reply.Reply.{Reply}
use Rattle.held.specs.declared.state.Held.{Held}
use Rattle.held.specs.Held.{Kept, code_of, flags_in}
use Rattle.held.specs.Quick.{stilled, Passing}
use Rattle.held.specs.Reply.{replied, Serves}
use Rattle.held.proofs.Puts.{timer_to}
use Rattle.held.proofs.Stores.{and_right}
use Rattle.serving.specs.declared.asked.Asked.{Asked}
use Rattle.serving.specs.Asked.{calls, known, call_of, answered_to}
use Rattle.serving.specs.Looking.{stilled_in, passed_of, stays_of, Left, LeftFor}
use Rattle.serving.proofs.Laws.{passed-asks, passed-kept}
use Rattle.renewing.specs.Edges.{catches_of, caught_in}
use Rattle.renewing.proofs.Files.{Making, wrote-tells, wrote-serves}

-- ---- ICRn moves, and is not TOP
module _ (s : Timer) (icr tifr : ℕ) (other : eqb (source_at s.config.wide (mode_of s)) I ≡ false) where
  abbrev w : Wave
  w = wave_of s (mode_of s)

  abbrev u : Timer
  u = flags_to (icr_to s icr) tifr s.flags.timsk

  top-same : (a : ℕ) → top_of (wave_of u (mode_of u)) a ≡ top_of w a
  unfolding wave_of mode_of
  top-same = top-icr w icr (source-max s.config.wide (mode_of s)) other

  gap_same : gap (wave_of u (mode_of u)) s.counter s.ocr ≡ gap w s.counter s.ocr
  unfolding wave_of mode_of
  gap_same = gap-icr w icr (source-max s.config.wide (mode_of s)) other s.counter s.ocr

  next-same : next_of u ≡ next_of s
  unfolding next_of next_at running_of divisor_of held_of setting_at wave_of mode_of flags_ahead linear events_at raised falls at_top at_zero overflows loads
  next-same = λ i. cond (running_of s)
      (next.At (record { 0 = cycle_at (prescaler_of s) (ticks_at (prescaler_of s) s.clock.sync.0 + (gap_same i + 1)) }) (raised (setting_of s) (events_at (setting_of s) (linear w (gap_same i) (moving_of s)) (top-same (get_or s.ocr 0 0) i))))
      next.Never

  -- so what is kept stands
  icr-keeps : (h : Held) → Kept (timer_to h s) → Valid u → Kept (timer_to h u)
  unfolding running_of divisor_of held_of mode_of wave_of falls setting_at scene_of
  icr-keeps h k v = record {
    valid = v;
    next = k.next ∙ ap code_of (sym next-same);
    flags = k.flags ∙ ap flags_in (sym next-same);
    shift = k.shift;
    idle = k.idle;
    small = k.small;
    down = k.down;
    scene = k.scene;
    top = k.top ∙ sym (top-same (get_or s.ocr 0 0));
  }

-- ---- the call: an edge or the comparator's output that is left, and captures
pub record Catching (h : Held) (q : Asked) : Type 0 where
  pub made : Making h q true captured
  pub captures : captures h.timer q.value ≡ true

module _ (h : Held) (q : Asked) (l : LeftFor h (call_of q) q.cycle) (low : 9 ≤ q.kind) (high : q.kind ≤ 10) (c : catches_of h.timer q ≡ true) where
  abbrev t : Timer
  t = h.timer

  edge-catches : q.kind ≡ 9 → Catching h q
  unfolding catches_of asks works says passed_of edge_captures
  edge-catches e =
      let y : edge_captures t q.pin q.value ≡ true = rw e at c in
      let m : Left h (call.Edge q.pin q.value) q.cycle = subst (λ (n : ℕ). LeftFor h (known (calls q) n) q.cycle) e l in
      let z : edge_captures (stilled_in h q.cycle) q.pin q.value ≡ true = same-edge {t = t} {x = stilled_in h q.cycle} (record { config = refl; registers = refl; halts = refl }) q.pin q.value ∙ y in
      record {
        made = record { call = call.Edge q.pin q.value; named = ap (known (calls q)) e; accepted = m.accepted; advances = refl; syncs = y; does = rw z refl; yields = refl };
        captures = and_right (is_pin t.config.icr.wire q.pin && not t.halts.routed) _ y;
      }

  output-catches : q.kind ≡ 10 → Catching h q
  unfolding stays_of asks works says passed_of output_captures
  output-catches e =
      let m : Left h (call.Output q.value) q.cycle = subst (λ (n : ℕ). LeftFor h (known (calls q) n) q.cycle) e l in
      let y : output_captures t q.value ≡ true = not-false _ m.turns in
      let z : output_captures (stilled_in h q.cycle) q.value ≡ true = same-output {t = t} {x = stilled_in h q.cycle} (record { config = refl; registers = refl; halts = refl }) q.value ∙ y in
      record {
        made = record { call = call.Output q.value; named = ap (known (calls q)) e; accepted = m.accepted; advances = refl; syncs = y; does = rw z refl; yields = refl };
        captures = and_right t.halts.routed _ y;
      }

  pub catch-made : Catching h q
  catch-made = go (eqb q.kind 10) refl
    where
      go : (b : Bool) → eqb q.kind 10 ≡ b → Catching h q
      go true e = output-catches (eqb-true q.kind 10 e)
      go false e = let n = eqb-false q.kind 10 e in edge-catches (omega arith)

-- ---- the answer
module _ (h : Held) (q : Asked) (k : Kept h) (p : Catching h q) where
  -- what the time that passes asks
  pub catch-asks : Passing h.timer.counter h.timer.clock h.shift h.down q.cycle
  catch-asks = passed-asks h p.made.call q.cycle k p.made.accepted p.made.syncs

  abbrev x : Timer
  x = stilled_in h q.cycle

  still_kept : Kept (timer_to h x)
  unfolding passed_of
  still_kept = subst (λ (b : Bool). Kept (timer_to h (passed_of h b q.cycle))) p.made.syncs (passed-kept h p.made.call q.cycle k p.made.accepted)

  -- the stilled timer has the cycle as its latest already
  latest-in : latest_to (captured x).timer q.cycle ≡ (captured x).timer
  unfolding captured stilled
  latest-in = refl

  catch-keeps : Valid (captured x).timer → Kept (timer_to h (captured x).timer)
  unfolding captured mode_of
  catch-keeps v = icr-keeps x _ _ (other-top h.timer q.value p.captures) h still_kept v

  module _ (area : List ℕ) {w : Logged} {wrote : Bool} {past : List ℕ} {s : Timer} (f : s ≡ passed_of h true q.cycle) (g : Logs (captured s) q.cycle w)
      (y : (wrote ≡ leb (0 + w.log.len) (length area)) × (past ≡ cond wrote (sets area 0 (take w.log.len w.log.bytes)) area)) where
    pub catch-logs : Logs (captured (passed_of h true q.cycle)) q.cycle w
    catch-logs = subst (λ (z : Timer). Logs (captured z) q.cycle w) f g

    timer-is : w.timer ≡ (captured x).timer
    unfolding passed_of
    timer-is = catch-logs.timer

    -- the parts put back are those of the captured timer
    caught-is : (r : Reply) → caught_in h (record { counter = w.timer.counter; clock = w.timer.clock; icr = w.timer.registers.icr; tifr = w.timer.flags.tifr; reply = r }) ≡ timer_to h (captured x).timer
    unfolding captured
    caught-is r = rw timer-is refl

    pub catch-serves : wrote ≡ true → {r : Reply} → r ≡ replied 0 0 0 w.log.len h.next h.flags
        → Serves (answered_to h.timer (call_of q) q.cycle area) (caught_in h (record { counter = w.timer.counter; clock = w.timer.clock; icr = w.timer.registers.icr; tifr = w.timer.flags.tifr; reply = r })) r past
    catch-serves d {r} e =
        let m : latest_to w.timer q.cycle ≡ (captured x).timer = ap (λ (z : Timer). latest_to z q.cycle) timer-is ∙ latest-in in
        let v : Valid (captured x).timer = subst Valid m (wrote-tells k p.made area catch-logs y d).valid in
        wrote-serves k p.made area catch-logs y d (ap (λ (z : Held). z.timer) (caught-is r) ∙ sym m) (subst Kept (sym (caught-is r)) (catch-keeps v)) e
