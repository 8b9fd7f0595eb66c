-- The calls' answers, of what is kept of a timer.
use Prim.Native.Nat.{ℕ, ◌+◌, ◌-◌, ◌≤◌, ◌<◌, ◌^◌}
use native.Mathlib.Omega.{arith}
use native.Mathlib.Nat.{add-mul, mul-le-mul}
use mathlib.Core.Path.{◌≡◌, refl, sym, ap, ◌∙◌}
use mathlib.Core.Bool.{Bool, true, false, cond}
use mathlib.Core.List.{List, []}
use lib.Bits.{bit_and}
use lib.Dec.{eqb, leb, ltb}
use borrow.Author.Tests.{eqb-true, eqb-false, ne_eqb, lt-leb, ltb-false}
use Rattle.time.specs.Units.{ticks_at, cycle_at, late_at}
use Rattle.time.proofs.Clocks.{tick-before}
use Rattle.wave.specs.Distance.{gap}
use Rattle.wave.specs.Count.{falls}
use Rattle.tick.specs.Distance.{flags_ahead}
use Rattle.tick.specs.Skip.{linear}
use Rattle.tick.specs.Tick.{events_at}
use Rattle.tick.proofs.Bounds.{gap-max}
use Rattle.counter.specs.declared.next.Next.TheVariants as next
use Rattle.counter.specs.declared.state.Timer.{Timer}
use Rattle.counter.specs.Halts.{latest_to}
use Rattle.counter.specs.Parts.{flags_to}
use Rattle.counter.specs.Modes.{mode_of, wave_of, divisor_of, prescaler_of, held_of, running_of}
use Rattle.counter.specs.Setting.{setting_at, setting_of, moving_of}
use Rattle.counter.specs.Next.{next_at, next_of}
use Rattle.counter.specs.Valid.{Valid}
use Rattle.counter.proofs.Bounds.{divisor-max, valid-sound}
use Rattle.answers.specs.declared.Answer.{Answer}
use Rattle.answers.specs.declared.Answer.TheVariants as answer
use Rattle.answers.specs.declared.Outcome.{Outcome}
use Rattle.answers.specs.Answers.{Told, Tells, event, number_of, values_of}
use Rattle.answers.specs.Refusals.{is_due, late, refusal}
use Rattle.timer.specs.declared.calls.Call.{Call}
use Rattle.timer.specs.declared.calls.Call.TheVariants as call
use Rattle.timer.specs.Calls.{asks, works, says, refusal_of}
use Rattle.timer.proofs.Outcomes.{turned-away, at_once, plainly}
use Rattle.held.specs.declared.state.Held.{Held}
use Rattle.held.specs.declared.reply.Reply.{Reply}
use Rattle.held.specs.Held.{Kept, code_of, flags_in, never}
use Rattle.held.specs.Reply.{what_of, value_of, beside, replied, Serves, Served}
use Rattle.held.specs.Quick.{refusing, answering, nexting}
use Rattle.held.proofs.Puts.{latest_in, tifr_in}

-- the next event's cycle is no word's last
next_small : (t : Timer) → Valid t → next_at t < 2 ^ 63
unfolding next_at cycle_at setting_at
next_small t v =
    let s = valid-sound t v in
    let g = gap-max (wave_of t (mode_of t)) (moving_of t) s.steady in
    let l : gap (wave_of t (mode_of t)) t.counter t.ocr + 1 ≤ 65536 = omega arith in
    let k = mul-le-mul l (divisor-max t) in
    let e = add-mul (ticks_at (prescaler_of t) t.clock.sync.0) (gap (wave_of t (mode_of t)) t.counter t.ocr + 1) (divisor_of t) in
    let b = tick-before (prescaler_of t) t.clock.sync.0 v.origin in
    omega arith

-- the next event's number tells whether it is due
pub due-is : (t : Timer) (cycle : ℕ) → cycle < 2 ^ 62 → is_due t cycle ≡ leb (code_of (next_of t)) cycle
unfolding is_due next_of code_of
due-is t cycle l = go (running_of t) refl
  where
    go : (b : Bool) → running_of t ≡ b → is_due t cycle ≡ leb (code_of (next_of t)) cycle
    go true e = rw e refl
    go false e = rw e (sym (lt-leb never cycle (omega arith)))

pub late-low : (latest cycle : ℕ) → late_at latest cycle ≡ 0 → cycle < 2 ^ 62
late-low latest cycle e = go (ltb (2 ^ 62 - 1) cycle) refl
  where
    go : (b : Bool) → ltb (2 ^ 62 - 1) cycle ≡ b → cycle < 2 ^ 62
    go true q = let z : ◌≡◌ {A = ℕ} 2 0 = rw q at e in omega arith
    go false q = omega (arith, ltb-false (2 ^ 62 - 1) cycle q)

-- an outcome told, of a held timer
pub serves-of : {x : Told} {r : Outcome} {after : List ℕ} {g : Held} → Tells x r after → g.timer ≡ r.timer → Kept g
    → Serves x g (replied (number_of r.answer) (what_of (values_of r.answer)) (value_of (values_of r.answer)) r.written (beside (values_of r.answer) g.next) (beside (values_of r.answer) g.flags)) after
serves-of {x} {r} {after} {g} q e k = record {
  timer = e ∙ q.timer;
  reply = λ i. replied (q.number i) (what_of (q.values i)) (value_of (q.values i)) (q.written i) (beside (q.values i) (cycle-is i)) (beside (q.values i) (flags-are i));
  area = q.area;
  kept = k;
}
  where
    cycle-is : g.next ≡ code_of (next_of x.timer)
    cycle-is = k.next ∙ ap (λ (t : Timer). code_of (next_of t)) (e ∙ q.timer)

    flags-are : g.flags ≡ flags_in (next_of x.timer)
    flags-are = k.flags ∙ ap (λ (t : Timer). flags_in (next_of t)) (e ∙ q.timer)

-- the same reply, in other words
again : {x : Told} {g : Held} {r p : Reply} {after : List ℕ} → p ≡ r → Serves x g r after → Serves x g p after
again e s = record { timer = s.timer; reply = e ∙ s.reply; area = s.area; kept = s.kept }

pub told-serves : {x : Told} {r : Outcome} {after : List ℕ} {g : Held} {p : Reply} → Tells x r after → g.timer ≡ r.timer → Kept g
    → p ≡ replied (number_of r.answer) (what_of (values_of r.answer)) (value_of (values_of r.answer)) r.written (beside (values_of r.answer) g.next) (beside (values_of r.answer) g.flags) → Serves x g p after
told-serves q e k ep = again ep (serves-of q e k)

-- a call that its cycle and the next event alone can turn away
pub record Timed (t : Timer) (c : Call) (tested : Bool) : Type 0 where
  pub absent : (asks t c).absent ≡ false
  pub wrong : (asks t c).wrong ≡ false
  pub halted : (asks t c).halted ≡ false
  pub tests : (asks t c).tested ≡ tested

pub refusal_is : (h : Held) (c : Call) (cycle : ℕ) {tested : Bool} → Kept h → Timed h.timer c tested → refusal_of h.timer c cycle ≡ refusing tested h.timer.clock.latest.0 h.next cycle
unfolding refusal_of refusal late refusing
refusal_is h c cycle {tested} k a = go (eqb (late_at h.timer.clock.latest.0 cycle) 0) refl
  where
    go : (b : Bool) → eqb (late_at h.timer.clock.latest.0 cycle) 0 ≡ b → refusal_of h.timer c cycle ≡ refusing tested h.timer.clock.latest.0 h.next cycle
    go true e = let d = due-is h.timer cycle (late-low h.timer.clock.latest.0 cycle (eqb-true _ _ e)) in simp (e, a.absent, a.wrong, a.halted, a.tests, d, k.next)
    go false e = simp e

-- turned away
pub turned-serves : (h : Held) (c : Call) (cycle n : ℕ) → Kept h → refusal_of h.timer c cycle ≡ n → (n ≡ 0 → ⊥) → Served h.timer c cycle h (replied n 5 0 0 0 0)
turned-serves h c cycle n k e z area = serves-of (turned-away h.timer c cycle area k.valid (sym e) z refl) refl k

-- done without a record, and without time that passes
pub record Plain (t : Timer) (c : Call) (cycle : ℕ) (u : Timer) (a : Answer) : Type 0 where
  pub advances : (asks t c).advances ≡ false
  pub syncs : (asks t c).syncs ≡ false
  pub timer : u ≡ (works t c cycle).timer
  pub log : (works t c cycle).log ≡ []
  pub values : values_of a ≡ says t c
  pub number : number_of a ≡ 0

pub plain-serves : (h : Held) (c : Call) (cycle : ℕ) {u : Timer} {a : Answer} {g : Held} → Kept h → refusal_of h.timer c cycle ≡ 0 → Plain h.timer c cycle u a → g.timer ≡ latest_to u cycle
    → (Valid (latest_to u cycle) → Kept g) → Served h.timer c cycle g (replied 0 (what_of (values_of a)) (value_of (values_of a)) 0 (beside (values_of a) g.next) (beside (values_of a) g.flags))
plain-serves h c cycle {u} {a} {g} k e p w m area =
    let q = plainly h.timer c cycle area (at_once h.timer c cycle area k.valid (sym e) refl p.advances p.syncs) u {a = a} p.timer p.log p.values p.number refl in
    let s = serves-of {g = g} q w (m q.valid) in
    record { timer = s.timer; reply = ap (λ (n : ℕ). replied n (what_of (values_of a)) (value_of (values_of a)) 0 (beside (values_of a) g.next) (beside (values_of a) g.flags)) (sym p.number) ∙ s.reply; area = s.area; kept = s.kept }

-- an accepted cycle keeps what is kept, and so does another TIFR
pub kept-latest : (h : Held) (n : ℕ) → Kept h → Valid (latest_to h.timer n) → Kept (latest_in h n)
unfolding next_of next_at running_of divisor_of held_of mode_of wave_of falls setting_at
kept-latest h n k v = record { valid = v; next = k.next; flags = k.flags; shift = k.shift; idle = k.idle; small = k.small; down = k.down; scene = k.scene; top = k.top }

kept-tifr : (h : Held) (f n : ℕ) → Kept h → Valid (latest_to (flags_to h.timer f h.timer.flags.timsk) n) → Kept (latest_in (tifr_in h f) n)
unfolding next_of next_at running_of divisor_of held_of mode_of wave_of falls setting_at flags_ahead events_at linear
kept-tifr h f n k v = record { valid = v; next = k.next; flags = k.flags; shift = k.shift; idle = k.idle; small = k.small; down = k.down; scene = k.scene; top = k.top }

-- a call that changes the latest cycle alone, and answers
pub answering-right : (h : Held) (c : Call) (cycle : ℕ) (tested : Bool) (a : Answer) → Kept h → Timed h.timer c tested → Plain h.timer c cycle h.timer a → ((n : ℕ) → beside (values_of a) n ≡ n)
    → let r = answering tested (what_of (values_of a)) (value_of (values_of a)) h.next h.flags h.timer.clock.latest.0 cycle in Served h.timer c cycle (latest_in h r.latest) r.reply
unfolding answering
answering-right h c cycle tested a k m p s = go (eqb (refusing tested h.timer.clock.latest.0 h.next cycle) 0) refl
  where
    is : refusal_of h.timer c cycle ≡ refusing tested h.timer.clock.latest.0 h.next cycle
    is = refusal_is h c cycle k m

    go : (b : Bool) → eqb (refusing tested h.timer.clock.latest.0 h.next cycle) 0 ≡ b
        → let r = answering tested (what_of (values_of a)) (value_of (values_of a)) h.next h.flags h.timer.clock.latest.0 cycle in Served h.timer c cycle (latest_in h r.latest) r.reply
    go true e = rw e (λ (area : List ℕ). again (λ i. replied 0 (what_of (values_of a)) (value_of (values_of a)) 0 (sym (s h.next) i) (sym (s h.flags) i))
        (plain-serves h c cycle k (is ∙ eqb-true _ _ e) p refl (kept-latest h cycle k) area))
    go false e = rw e (turned-serves h c cycle _ k is (eqb-false _ _ e))

-- ---- the next event
pub event-what : (t : Timer) → Valid t → cond (eqb (code_of (next_of t)) never) 3 2 ≡ what_of (event (next_of t))
unfolding code_of next_of
event-what t v = go (running_of t)
  where
    go : (b : Bool) → let n = cond b (next.At (record { 0 = next_at t }) (flags_ahead (setting_of t) (moving_of t))) next.Never in cond (eqb (code_of n) never) 3 2 ≡ what_of (event n)
    go true = let l = next_small t v in simp (ne_eqb (next_at t) never (omega arith))
    go false = refl

pub event-value : (t : Timer) → Valid t → cond (eqb (code_of (next_of t)) never) 0 (code_of (next_of t)) ≡ value_of (event (next_of t))
unfolding code_of next_of
event-value t v = go (running_of t)
  where
    go : (b : Bool) → let n = cond b (next.At (record { 0 = next_at t }) (flags_ahead (setting_of t) (moving_of t))) next.Never in cond (eqb (code_of n) never) 0 (code_of n) ≡ value_of (event n)
    go true = let l = next_small t v in simp (ne_eqb (next_at t) never (omega arith))
    go false = refl

module _ (h : Held) (cycle : ℕ) (k : Kept h) where
  abbrev t : Timer
  t = h.timer

  nexting-is : nexting h.next h.flags t.clock.latest.0 cycle
      ≡ answering true (what_of (event (next_of t))) (value_of (event (next_of t))) h.next h.flags t.clock.latest.0 cycle
  unfolding nexting
  nexting-is = go (eqb h.next never) refl
    where
      go : (b : Bool) → eqb h.next never ≡ b → nexting h.next h.flags t.clock.latest.0 cycle
          ≡ answering true (what_of (event (next_of t))) (value_of (event (next_of t))) h.next h.flags t.clock.latest.0 cycle
      go true e =
          let w : 3 ≡ what_of (event (next_of t)) = rw (← k.next, e) at (event-what t k.valid) in
          let v : 0 ≡ value_of (event (next_of t)) = rw (← k.next, e) at (event-value t k.valid) in
          rw (e, ← w, ← v) refl
      go false e =
          let w : 2 ≡ what_of (event (next_of t)) = rw (← k.next, e) at (event-what t k.valid) in
          let v : h.next ≡ value_of (event (next_of t)) = rw (← k.next, e) at (event-value t k.valid) in
          rw (e, ← w, ← v) refl

  pub next-right : let r = nexting h.next h.flags t.clock.latest.0 cycle in Served t call.Next cycle (latest_in h r.latest) r.reply
  unfolding asks works says
  next-right = rw nexting-is (answering-right h call.Next cycle true (answer.Next (next_of t)) k
      (record { absent = refl; wrong = refl; halted = refl; tests = refl }) (record { advances = refl; syncs = refl; timer = refl; log = refl; values = refl; number = refl }) (λ n. refl))

  -- ---- TIFR
  timely : (c : Call) → Timed t c true → refusing true t.clock.latest.0 h.next cycle ≡ 0 → refusal_of t c cycle ≡ 0
  timely c m e = refusal_is h c cycle k m ∙ e

  pub tifr-timed : Timed t call.Tifr true
  unfolding asks
  tifr-timed = record { absent = refl; wrong = refl; halted = refl; tests = refl }

  pub tifr-serves : refusing true t.clock.latest.0 h.next cycle ≡ 0 → Served t call.Tifr cycle (latest_in h cycle) (replied 0 1 t.flags.tifr 0 h.next h.flags)
  unfolding asks works says
  tifr-serves e = plain-serves h call.Tifr cycle {a = answer.Value t.flags.tifr} k (timely call.Tifr tifr-timed e)
      (record { advances = refl; syncs = refl; timer = refl; log = refl; values = refl; number = refl }) refl (kept-latest h cycle k)

  pub clear-timed : (ones : ℕ) → Timed t (call.WriteTifr ones) true
  unfolding asks
  clear-timed ones = record { absent = refl; wrong = refl; halted = refl; tests = refl }

  pub clear-serves : (ones : ℕ) → refusing true t.clock.latest.0 h.next cycle ≡ 0 → Served t (call.WriteTifr ones) cycle (tifr_in (latest_in h cycle) (bit_and t.flags.tifr (255 - ones))) (replied 0 0 0 0 h.next h.flags)
  unfolding asks works says
  clear-serves ones e = plain-serves h (call.WriteTifr ones) cycle {a = answer.Done} k (timely (call.WriteTifr ones) (clear-timed ones) e)
      (record { advances = refl; syncs = refl; timer = refl; log = refl; values = refl; number = refl }) refl (kept-tifr h (bit_and t.flags.tifr (255 - ones)) cycle k)

  -- ---- a cycle accepted or refused
  pub refused-serves : (c : Call) {tested : Bool} (n : ℕ) → Timed t c tested → n ≡ refusing tested t.clock.latest.0 h.next cycle → eqb n 0 ≡ false → Served t c cycle h (replied n 5 0 0 0 0)
  refused-serves c n m e z = turned-serves h c cycle n k (refusal_is h c cycle k m ∙ sym e) (eqb-false n 0 z)
