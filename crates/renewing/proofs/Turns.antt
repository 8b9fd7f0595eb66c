-- A call that halts the counter, lets it go on, or starts its prescaler anew, of what is kept of a timer.
use Prim.Native.Nat.{ℕ, ◌+◌, ◌-◌, ◌≤◌, ◌<◌, ◌^◌}
use native.Mathlib.Omega.{arith}
use mathlib.Core.Bool.{Bool, true, false, not}
use mathlib.Core.List.{List, []}
use mathlib.Core.Path.{◌≡◌, refl, sym, ap, subst, ◌∙◌}
use lib.Dec.{eqb}
use lib.ListN.{get_or}
use borrow.Author.Tests.{eqb-true, eqb-false, not-false}
use Rattle.time.specs.declared.clock.Clock.{Clock}
use Rattle.time.specs.declared.halts.Halts.{Halts}
use Rattle.wave.specs.declared.count.Counter.{Counter}
use Rattle.wave.specs.Count.{falls, top_of}
use Rattle.tick.proofs.Choices.{cond-all}
use Rattle.scene.specs.Scene.{scene_of}
use Rattle.passage.specs.Passage.{ticks}
use Rattle.counter.specs.declared.state.Timer.{Timer}
use Rattle.counter.specs.Halts.{latest_to, asleep_at, awake_at, reduced_to, prescaled_at, tsm_to}
use Rattle.counter.specs.Logs.{Noted, silent}
use Rattle.counter.specs.Modes.{mode_of, wave_of}
use Rattle.counter.specs.Setting.{setting_at, setting_of}
use Rattle.counter.specs.Valid.{Valid}
use Rattle.answers.specs.declared.Answer.TheVariants as answer
use Rattle.answers.specs.Answers.{Tells}
use Rattle.timer.specs.declared.calls.Call.{Call}
use Rattle.timer.specs.declared.calls.Call.TheVariants as call
use Rattle.timer.specs.Calls.{answered, asks, works, says}
use Rattle.timer.proofs.Outcomes.{Turning, sleeping, reducing, changing, prescaling, wake-asked, plainly}
use Rattle.held.specs.declared.state.Ahead.{Ahead}
use Rattle.held.specs.declared.state.Held.{Held}
use Rattle.held.specs.declared.reply.Reply.{Reply}
use Rattle.held.specs.Held.{Kept, Foresees}
use Rattle.held.specs.Quick.{Passing}
use Rattle.held.specs.Reply.{replied, Serves}
use Rattle.held.proofs.Answers.{told-serves}
use Rattle.serving.specs.declared.asked.Asked.{Asked}
use Rattle.serving.specs.declared.asked.Wanted.TheVariants as wanted
use Rattle.serving.specs.Asked.{calls, known, call_of, answered_to}
use Rattle.serving.specs.Looking.{passed_of, stays_of, Left, LeftFor}
use Rattle.held.proofs.Puts.{timer_to}
use Rattle.serving.proofs.Laws.{passed-asks, passed-kept}
use Rattle.serving.proofs.Replied.{known-serves}
use Rattle.renewing.specs.Halts.{turned_of}
use Rattle.renewing.proofs.Files.{Making, ready, unrefused}

-- ---- which call it is
module _ (h : Held) (q : Asked) where
  abbrev t : Timer
  t = h.timer

  abbrev made : Timer → Noted
  made x = silent (turned_of x q)

  -- one that lets time pass where it turns
  passing : {c : Call} {turns : Bool} {so : Timer → Timer} → Turning t c q.cycle turns so → call_of q ≡ wanted.Known c → Left h c q.cycle → stays_of t (asks t c).syncs c ≡ not (asks t c).syncs
      → so (passed_of h true q.cycle) ≡ turned_of (passed_of h true q.cycle) q → Making h q true made
  unfolding passed_of
  passing {c} {turns} g n l s e =
      let y : (asks t c).syncs ≡ true = not-false (asks t c).syncs (sym s ∙ l.turns) in
      let o : turns ≡ true = sym g.syncs ∙ y in
      record {
        call = c;
        named = n;
        accepted = l.accepted;
        advances = g.advances;
        syncs = y;
        does = (rw o at (g.works {x = passed_of h true q.cycle} (record { config = refl; registers = refl; halts = refl }))) ∙ ap silent e;
        yields = g.says (passed_of h true q.cycle);
      }

  module _ (l : LeftFor h (call_of q) q.cycle) where
    at : (n : ℕ) → q.kind ≡ n → LeftFor h (known (calls q) n) q.cycle
    at n e = subst (λ (n : ℕ). LeftFor h (known (calls q) n) q.cycle) e l

    sleeps : q.kind ≡ 12 → Making h q true made
    unfolding stays_of turned_of
    sleeps e = passing (sleeping t q.cycle q.value) (ap (known (calls q)) e) (at 12 e) refl (rw e refl)

    reduces-so : q.kind ≡ 14 → Making h q true made
    unfolding stays_of turned_of passed_of
    reduces-so e = passing (reducing t q.cycle q.address) (ap (known (calls q)) e) (at 14 e) refl (rw e refl)

    holds-so : q.kind ≡ 15 → Making h q true made
    unfolding stays_of turned_of
    holds-so e = passing (changing t q.cycle q.value) (ap (known (calls q)) e) (at 15 e) refl (rw e refl)

    restarts : q.kind ≡ 16 → Making h q true made
    unfolding stays_of turned_of
    restarts e = passing (prescaling t q.cycle q.value) (ap (known (calls q)) e) (at 16 e) refl (rw e refl)

    asleep : q.kind ≡ 13 → t.halts.asleep ≡ true
    unfolding stays_of
    asleep e = not-false t.halts.asleep (at 13 e).turns

    wakes-so : q.kind ≡ 13 → Making h q false made
    unfolding asks works says turned_of passed_of
    wakes-so e = record {
      call = call.Wake;
      named = ap (known (calls q)) e;
      accepted = (at 13 e).accepted;
      advances = refl;
      syncs = refl;
      does = rw (asleep e, e) refl;
      yields = refl;
    }

    pub making : 12 ≤ q.kind → q.kind ≤ 16 → Making h q (not (eqb q.kind 13)) made
    making low high = go (eqb q.kind 12) (eqb q.kind 13) (eqb q.kind 14) (eqb q.kind 15) refl refl refl refl
      where
        go : (a b c d : Bool) → eqb q.kind 12 ≡ a → eqb q.kind 13 ≡ b → eqb q.kind 14 ≡ c → eqb q.kind 15 ≡ d → Making h q (not b) made
        go true true c d w x y z = let m = eqb-true q.kind 12 w in let n = eqb-true q.kind 13 x in absurd (omega arith)
        go true false c d w x y z = sleeps (eqb-true q.kind 12 w)
        go false true c d w x y z = wakes-so (eqb-true q.kind 13 x)
        go false false true d w x y z = reduces-so (eqb-true q.kind 14 y)
        go false false false true w x y z = holds-so (eqb-true q.kind 15 z)
        go false false false false w x y z =
            let a = eqb-false q.kind 12 w in
            let b = eqb-false q.kind 13 x in
            let c = eqb-false q.kind 14 y in
            let d = eqb-false q.kind 15 z in
            restarts (omega arith)

-- ---- what it leaves: another clock, other halts
-- a timer with its own parts but for count, clock and halts
abbrev alike : Timer → Counter → Clock → Halts → Timer
alike v c k l = record { config = v.config; counter = c; ocr = v.ocr; buffer = v.buffer; oc = v.oc; drives = v.drives; registers = v.registers; flags = v.flags; clock = k; halts = l }

abbrev Keeps : Timer → Timer → Type 0
Keeps v u = u ≡ alike v v.counter u.clock u.halts

keeps : (v : Timer) (q : Asked) → Keeps v (turned_of v q)
unfolding turned_of asleep_at awake_at reduced_to prescaled_at tsm_to
keeps v q = cond-all (Keeps v) (eqb q.kind 12) refl (cond-all (Keeps v) (eqb q.kind 13) refl (cond-all (Keeps v) (eqb q.kind 14) refl (cond-all (Keeps v) (eqb q.kind 15) refl refl)))

module _ (h : Held) (q : Asked) (b : Bool) where
  abbrev s : Timer
  s = passed_of h b q.cycle

  abbrev pub left : Timer
  left = latest_to (turned_of s q) q.cycle

  left_is : left ≡ alike s s.counter left.clock left.halts
  left_is = ap (λ (u : Timer). latest_to u q.cycle) (keeps s q)

  same_count : left.counter ≡ s.counter
  same_count = ap (λ (u : Timer). u.counter) left_is

  passed-alike : (c : Counter) (k : Clock) (l : Halts) → alike h.timer c k l ≡ alike s c k l
  unfolding passed_of
  passed-alike c k l = go b
    where
      go : (b : Bool) → alike h.timer c k l ≡ alike (passed_of h b q.cycle) c k l
      go true = refl
      go false = refl

  -- the parts put back
  pub put_is : alike h.timer left.counter left.clock left.halts ≡ left
  put_is = passed-alike left.counter left.clock left.halts ∙ ap (λ (c : Counter). alike s c left.clock left.halts) same_count ∙ sym left_is

  module _ (k : Kept (timer_to h s)) where
    pub scene-stands : h.scene ≡ scene_of (setting_of left)
    unfolding setting_at mode_of wave_of
    scene-stands = k.scene ∙ ap (λ (u : Timer). scene_of (setting_of u)) (sym left_is)

    pub top-stands : h.top ≡ top_of (wave_of left (mode_of left)) (get_or left.ocr 0 0)
    unfolding mode_of wave_of
    top-stands = k.top ∙ ap (λ (u : Timer). top_of (wave_of u (mode_of u)) (get_or u.ocr 0 0)) (sym left_is)

    pub down-stands : h.down ≡ falls (wave_of left (mode_of left)) left.counter
    unfolding mode_of wave_of
    down-stands = k.down ∙ ap (λ (u : Timer). falls (wave_of u (mode_of u)) u.counter) (sym left_is)

    -- what is kept
    pub turned-kept : Valid left → {e : Ahead} → Foresees left e
        → Kept (record { timer = left; scene = h.scene; next = e.next; top = h.top; flags = e.flags; shift = e.shift; down = h.down })
    turned-kept v f = record { valid = v; next = f.next; flags = f.flags; shift = f.shift; idle = f.idle; small = f.small; down = down-stands; scene = scene-stands; top = top-stands }

-- ---- the answer
module _ (h : Held) (q : Asked) (k : Kept h) (l : LeftFor h (call_of q) q.cycle) (low : 12 ≤ q.kind) (high : q.kind ≤ 16) where
  abbrev pub passes : Bool
  passes = not (eqb q.kind 13)

  m : Making h q passes (λ x. silent (turned_of x q))
  m = making h q l low high

  pub passing-asks : passes ≡ true → Passing h.timer.counter h.timer.clock h.shift h.down q.cycle
  passing-asks e = passed-asks h m.call q.cycle k m.accepted (m.syncs ∙ e)

  pub waking-asks : q.kind ≡ 13 → ((passed_of h passes q.cycle).halts.since.0 ≤ q.cycle) × ((passed_of h passes q.cycle).clock.origin.0 + (q.cycle - (passed_of h passes q.cycle).halts.since.0) < 2 ^ 64)
  unfolding passed_of
  waking-asks e = rw e (wake-asked h.timer m.call q.cycle k.valid (unrefused k m) (asleep h q l e))

  pub passed-keeps : Kept (timer_to h (passed_of h passes q.cycle))
  passed-keeps = subst (λ (b : Bool). Kept (timer_to h (passed_of h b q.cycle))) m.syncs (passed-kept h m.call q.cycle k m.accepted)

  told : (area : List ℕ) → Tells (answered ticks h.timer m.call q.cycle area) (record { answer = answer.Done; timer = left h q passes; written = 0 }) area
  told area = plainly h.timer m.call q.cycle area (ready k m area) (turned_of (passed_of h passes q.cycle) q) {a = answer.Done} (ap (λ (z : Noted). z.timer) (sym m.does)) (ap (λ (z : Noted). z.log) m.does) (sym m.yields) refl refl

  pub turned-valid : Valid (left h q passes)
  turned-valid = (told []).valid

  pub turned-serves : {e : Ahead} → Foresees (left h q passes) e → {r : Reply} → r ≡ replied 0 0 0 0 e.next e.flags → (area : List ℕ)
      → Serves (answered_to h.timer (call_of q) q.cycle area)
      (record { timer = alike h.timer (left h q passes).counter (left h q passes).clock (left h q passes).halts; scene = h.scene; next = e.next; top = h.top; flags = e.flags; shift = e.shift; down = h.down }) r area
  turned-serves {e} f p area = known-serves h.timer q m.call area m.named
      (told-serves (told area) (put_is h q passes)
      (subst (λ (u : Timer). Kept (record { timer = u; scene = h.scene; next = e.next; top = h.top; flags = e.flags; shift = e.shift; down = h.down })) (sym (put_is h q passes)) (turned-kept h q passes passed-keeps turned-valid f)) p)
