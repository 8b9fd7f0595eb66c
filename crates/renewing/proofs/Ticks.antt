-- A tick of the T pin, of what is kept of a timer: no event is to come of such a clock, before and after.
use Prim.Native.Nat.{ℕ, ◌+◌, ◌%◌, ◌≤◌}
use native.Mathlib.Omega.{arith}
use mathlib.Core.Bool.{Bool, true, false, cond, not, ◌&&◌, ◌||◌, true≢false}
use mathlib.Core.List.{List}
use mathlib.Core.Path.{◌≡◌, refl, sym, ap, subst, ◌∙◌}
use lib.Dec.{eqb, leb}
use lib.ListN.{length, take}
use lib.Seq.{sets}
use borrow.Author.Tests.{eqb-true, eqb-false, not-false}
use Rattle.tick.proofs.Choices.{and_left}
use Rattle.wave.specs.Count.{top_of}
use Rattle.scene.specs.Scene.{scene_of}
use Rattle.counter.specs.declared.advance.Logged.{Logged}
use Rattle.counter.specs.declared.next.Next.TheVariants as next
use Rattle.counter.specs.declared.state.Timer.{Timer}
use Rattle.counter.specs.Capture.{ticks_on}
use Rattle.counter.specs.Halts.{latest_to}
use Rattle.counter.specs.Logs.{struck, Logs}
use Rattle.counter.specs.Modes.{falling, rising, clock_at, chosen, divisor_at, mode_of, wave_of, divisor_of, held_of, running_of}
use Rattle.counter.specs.Next.{next_of}
use Rattle.counter.specs.Passage.{sync_to}
use Rattle.counter.specs.Setting.{setting_at, setting_of}
use Rattle.counter.specs.Valid.{Valid}
use Rattle.timer.specs.declared.calls.Call.TheVariants as call
use Rattle.timer.specs.Calls.{is_pin, edge_captures, edge_ticks, asks, works, says}
use Rattle.timer.proofs.Outcomes.{or_left, tick-asked}
use Rattle.held.specs.declared.reply.Reply.{Reply}
use Rattle.held.specs.declared.state.Held.{Held}
use Rattle.held.specs.Held.{Kept, code_of, flags_in}
use Rattle.held.specs.Reply.{replied, Serves}
use Rattle.held.proofs.Stores.{and_right, or_right}
use Rattle.serving.specs.declared.asked.Asked.{Asked}
use Rattle.serving.specs.Asked.{calls, known, call_of, answered_to}
use Rattle.serving.specs.Looking.{passed_of, stays_of, Left, LeftFor}
use Rattle.renewing.specs.Edges.{catches_of, ticked_in}
use Rattle.renewing.specs.Stands.{top_in, down_in}
use Rattle.renewing.proofs.Standing.{top-stands, down-stands}
use Rattle.renewing.proofs.Files.{Making, unrefused, wrote-tells, wrote-serves}

-- ---- the clock is no divisor, so the counter does not run by itself
no-divisor : (clocks select level : ℕ) → chosen clocks select level ≡ true → divisor_at clocks select ≡ 0
unfolding chosen divisor_at
no-divisor clocks select level e = go (clock_at clocks select) (eqb (clock_at clocks select) falling) (eqb (clock_at clocks select) rising) refl refl e
  where
    go : (n : ℕ) (a b : Bool) → eqb n falling ≡ a → eqb n rising ≡ b → a && eqb level 0 || b && eqb level 1 ≡ true → cond (leb n 1024) n 0 ≡ 0
    go n true b p q e = rw (eqb-true n falling p) refl
    go n false true p q e = rw (eqb-true n rising q) refl
    go n false false p q e = absurd (true≢false (sym e))

stands-still : (t : Timer) (level : ℕ) → ticks_on t level ≡ true → running_of t ≡ false
unfolding ticks_on running_of divisor_of
stands-still t level e = rw (no-divisor t.config.clocks (t.registers.tccrb % 8) level (and_left _ (not (held_of t)) e)) refl

never-next : (t : Timer) → running_of t ≡ false → next_of t ≡ next.Never
unfolding next_of
never-next t e = rw e refl

-- ---- the call: an edge that is left, and does not capture
module _ (h : Held) (q : Asked) (l : LeftFor h (call_of q) q.cycle) (low : 9 ≤ q.kind) (high : q.kind ≤ 10) (c : catches_of h.timer q ≡ false) where
  is-edge : q.kind ≡ 9
  unfolding catches_of
  is-edge = let n = eqb-false q.kind 10 (or_left _ (edge_captures h.timer q.pin q.value) c) in omega arith

  uncaptured : edge_captures h.timer q.pin q.value ≡ false
  unfolding catches_of
  uncaptured = or_right (eqb q.kind 10) _ c

  left : Left h (call.Edge q.pin q.value) q.cycle
  left = subst (λ (n : ℕ). LeftFor h (known (calls q) n) q.cycle) is-edge l

  ticked : edge_ticks h.timer q.pin q.value ≡ true
  unfolding stays_of asks
  ticked = let e : not (edge_ticks h.timer q.pin q.value) ≡ false = rw uncaptured at left.turns in not-false _ e

  pub tick-made : Making h q false (λ x. struck (sync_to x q.cycle))
  unfolding asks works says passed_of
  tick-made = record {
    call = call.Edge q.pin q.value;
    named = ap (known (calls q)) is-edge;
    accepted = left.accepted;
    advances = refl;
    syncs = uncaptured;
    does = rw (uncaptured, ticked) refl;
    yields = refl;
  }

  pub tick-waits : running_of h.timer ≡ false
  unfolding edge_ticks
  tick-waits = stands-still h.timer q.value (and_right (is_pin h.timer.config.t q.pin) _ ticked)

  -- what the tick asks
  pub tick-asks : Kept h → {u : Timer} → u ≡ sync_to h.timer q.cycle → Valid u
  tick-asks k e = tick-asked h.timer tick-made.call q.cycle k.valid (unrefused k tick-made) e

-- ---- what is kept
module _ (h : Held) (cycle : ℕ) (k : Kept h) (e : running_of h.timer ≡ false) where
  abbrev t : Timer
  t = h.timer

  abbrev pub after : Timer
  after = latest_to (struck (sync_to t cycle)).timer cycle

  abbrev pub kept-after : Held
  kept-after = record { timer = after; scene = h.scene; next = h.next; top = top_in h.scene.follows h.top after.ocr; flags = h.flags; shift = h.shift; down = down_in h.scene.kind after.counter }

  running-after : running_of after ≡ false
  unfolding running_of divisor_of held_of struck sync_to
  running-after = e

  scene-after : scene_of (setting_of after) ≡ h.scene
  unfolding setting_at mode_of wave_of struck sync_to
  scene-after = sym k.scene

  top-after : (x : ℕ) → top_of (wave_of after (mode_of after)) x ≡ top_of (wave_of t (mode_of t)) x
  unfolding mode_of wave_of struck sync_to
  top-after x = refl

  next-after : next_of t ≡ next_of after
  next-after = never-next t e ∙ sym (never-next after running-after)

  tick-keeps : Valid after → Kept kept-after
  tick-keeps v = record {
    valid = v;
    next = k.next ∙ ap code_of next-after;
    flags = k.flags ∙ ap flags_in next-after;
    shift = λ z. absurd (true≢false (sym z ∙ running-after));
    idle = λ z. k.idle e;
    small = k.small;
    down = down-stands h k after scene-after top-after;
    scene = sym scene-after;
    top = top-stands h k after scene-after top-after;
  }

-- ---- the answer
module _ (h : Held) (q : Asked) (k : Kept h) (l : LeftFor h (call_of q) q.cycle) (low : 9 ≤ q.kind) (high : q.kind ≤ 10) (c : catches_of h.timer q ≡ false)
    (area : List ℕ) {w : Logged} {wrote : Bool} {past : List ℕ} {s : Timer} (f : s ≡ sync_to h.timer q.cycle) (g : Logs (struck s) q.cycle w)
    (y : (wrote ≡ leb (0 + w.log.len) (length area)) × (past ≡ cond wrote (sets area 0 (take w.log.len w.log.bytes)) area)) where
  pub tick-logs : Logs (struck (sync_to (passed_of h false q.cycle) q.cycle)) q.cycle w
  unfolding passed_of
  tick-logs = subst (λ (x : Timer). Logs (struck x) q.cycle w) f g

  pub tick-serves : wrote ≡ true → {a : Timer} {n : ℕ} {b : Bool} {r : Reply} → a ≡ latest_to w.timer q.cycle → n ≡ top_in h.scene.follows h.top w.timer.ocr
      → b ≡ down_in h.scene.kind w.timer.counter → r ≡ replied 0 0 0 w.log.len h.next h.flags
      → Serves (answered_to h.timer (call_of q) q.cycle area) (ticked_in h (record { timer = a; top = n; down = b; reply = r })) r past
  unfolding passed_of
  tick-serves d {a} {n} {b} {r} ea en eb er =
      let m = tick-made h q l low high c in
      let e = tick-waits h q l low high c in
      let p : w.timer ≡ (struck (sync_to h.timer q.cycle)).timer = tick-logs.timer in
      let v : Valid (after h q.cycle k e) = subst (λ (x : Timer). Valid (latest_to x q.cycle)) p (wrote-tells k m area tick-logs y d).valid in
      let z : a ≡ after h q.cycle k e = ea ∙ ap (λ (x : Timer). latest_to x q.cycle) p in
      let i : ticked_in h (record { timer = a; top = n; down = b; reply = r }) ≡ kept-after h q.cycle k e =
      λ i. record { timer = z i; scene = h.scene; next = h.next; top = (en ∙ ap (λ (x : Timer). top_in h.scene.follows h.top x.ocr) p) i; flags = h.flags; shift = h.shift; down = (eb ∙ ap (λ (x : Timer). down_in h.scene.kind x.counter) p) i } in
      wrote-serves k m area tick-logs y d ea (subst Kept (sym i) (tick-keeps h q.cycle k e v)) er
