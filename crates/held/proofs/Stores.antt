-- Writes that leave the next event as it is, of what is kept of a timer.
use Prim.Native.Nat.{ℕ, zero, suc, ◌+◌, ◌-◌, ◌/◌, ◌%◌, ◌≤◌, ◌<◌}
use native.Mathlib.Omega.{arith}
use native.Mathlib.Nat.{mod-eq_of_lt}
use mathlib.Core.Path.{◌≡◌, refl, sym, ap, ◌∙◌}
use mathlib.Core.Bool.{Bool, true, false, cond, not, ◌&&◌, ◌||◌, true≢false}
use mathlib.Core.List.{List}
use lib.Dec.{eqb, leb, ltb}
use lib.ListN.{set}
use borrow.Author.Tests.{eqb-true, leb-true, ltb-false, lt-leb, ne_eqb, not-true, not-false}
use Rattle.config.specs.Config.{place_of}
use Rattle.wave.specs.Kinds.{C}
use Rattle.wave.specs.Count.{falls}
use Rattle.tick.specs.Distance.{flags_ahead}
use Rattle.tick.specs.Tick.{events_at, raised}
use Rattle.tick.proofs.Choices.{and_left}
use Rattle.scene.specs.declared.state.Scene.{Scene}
use Rattle.scene.specs.Scene.{scene_of}
use Rattle.passage.specs.Passage.{ticks}
use Rattle.counter.specs.declared.state.Timer.{Timer}
use Rattle.counter.specs.Halts.{latest_to}
use Rattle.counter.specs.Logs.{Noted, silent}
use Rattle.counter.specs.Modes.{mode_of, wave_of, divisor_of, held_of, running_of}
use Rattle.counter.specs.Next.{next_at, next_of}
use Rattle.counter.specs.Parts.{compares_to}
use Rattle.counter.specs.Registers.{is_high, immediate, temp_to, compare_to, committed, commit, written}
use Rattle.counter.specs.Setting.{setting_at}
use Rattle.counter.specs.Valid.{Valid}
use Rattle.answers.specs.declared.Answer.TheVariants as answer
use Rattle.answers.specs.Answers.{Tells}
use Rattle.timer.specs.declared.calls.Call.{Call}
use Rattle.timer.specs.declared.calls.Call.TheVariants as call
use Rattle.timer.specs.Calls.{answered, asks, works, says}
use Rattle.timer.proofs.Outcomes.{or_left, plainly}
use Rattle.held.specs.declared.state.Held.{Held}
use Rattle.held.specs.declared.write.Buffered.{Buffered}
use Rattle.held.specs.Held.{Kept, code_of, flags_in}
use Rattle.held.specs.Quick.{refusing, stilled}
use Rattle.held.specs.Reply.{replied}
use Rattle.held.specs.Write.{way_at, way_of, Waits, buffered, Latches, Stores}
use Rattle.held.proofs.Answers.{Timed, refusal_is, plain-serves, serves-of}
use Rattle.held.proofs.Puts.{latest_in, temp_in, counter_in, clock_in, buffer_in, waiting_to, waiting_in}
use Rattle.held.proofs.Stills.{Quiet, quiet-in, stored, stored-kept, stored-ready}

pub and_right : (a b : Bool) → a && b ≡ true → b ≡ true
and_right true b e = e
and_right false b e = absurd (true≢false (sym e))

pub or_right : (a b : Bool) → a || b ≡ false → b ≡ false
or_right true b e = absurd (true≢false e)
or_right false b e = e

-- ---- what a way says
module _ (h : Held) (address cycle : ℕ) where
  abbrev place : ℕ
  place = place_of h.timer.config address

  abbrev early : ℕ
  early = refusing false h.timer.clock.latest.0 h.next cycle

  abbrev due : ℕ
  due = refusing true h.timer.clock.latest.0 h.next cycle

  -- no register, or refused
  abbrev refused : Bool
  refused = ltb 12 place || not (eqb due 0)

  abbrev compares : Bool
  compares = (leb 2 place && leb place 6) && not (leb h.scene.kind C)

  abbrev chosen : Bool → Bool → Bool → Bool → ℕ
  chosen high early refused compares = cond high (cond early 1 32) (cond refused 32 (cond compares place (16 + place)))

  due-none : refused ≡ false → due ≡ 0
  due-none r = eqb-true due 0 (not-false (eqb due 0) (or_right (ltb 12 place) _ r))

  pub latches : way_of h address cycle ≡ 1 → (is_high place ≡ true) × (early ≡ 0)
  unfolding way_at
  latches w = go (is_high place) (eqb early 0) refused compares refl refl refl refl w
    where
      go : (x y u z : Bool) → is_high place ≡ x → eqb early 0 ≡ y → refused ≡ u → compares ≡ z → chosen x y u z ≡ 1 → (is_high place ≡ true) × (early ≡ 0)
      go true true u z p q o r e = (p, eqb-true _ _ q)
      go true false u z p q o r e = absurd (omega arith)
      go false y true z p q o r e = absurd (omega arith)
      go false y false true p q o r e = let l = leb-true 2 place (and_left _ _ (and_left _ _ r)) in absurd (omega arith)
      go false y false false p q o r e = absurd (omega arith)

  pub waits : (way_of h address cycle ≡ 1 → ⊥) → way_of h address cycle < 16 → (place ≡ way_of h address cycle) × Waits h (way_of h address cycle) cycle
  unfolding way_at
  waits n m = go (is_high place) (eqb early 0) refused compares refl refl refl refl n m
    where
      go : (x y u z : Bool) → is_high place ≡ x → eqb early 0 ≡ y → refused ≡ u → compares ≡ z → (chosen x y u z ≡ 1 → ⊥) → chosen x y u z < 16 → (place ≡ chosen x y u z) × Waits h (chosen x y u z) cycle
      go true true u z p q o r n m = absurd (n refl)
      go true false u z p q o r n m = absurd (omega arith)
      go false y true z p q o r n m = absurd (omega arith)
      go false y false true p q o r n m =
          let a : leb 2 place && leb place 6 ≡ true = and_left _ (not (leb h.scene.kind C)) r in (
            refl,
            record {
              first = leb-true 2 place (and_left _ (leb place 6) a);
              last = leb-true place 6 (and_right (leb 2 place) _ a);
              low = p;
              kind = not-true (leb h.scene.kind C) (and_right (leb 2 place && leb place 6) _ r);
              quiet = due-none o;
            },
          )
      go false y false false p q o r n m = absurd (omega arith)

  -- any other that is accepted below the next event
  pub takes : 16 ≤ way_of h address cycle → way_of h address cycle < 32
      → (place ≡ way_of h address cycle - 16) × (way_of h address cycle - 16 ≤ 12) × (is_high (way_of h address cycle - 16) ≡ false) × (due ≡ 0)
  unfolding way_at
  takes n m = go (is_high place) (eqb early 0) refused compares refl refl refl refl n m
    where
      go : (x y u z : Bool) → is_high place ≡ x → eqb early 0 ≡ y → refused ≡ u → compares ≡ z → 16 ≤ chosen x y u z → chosen x y u z < 32
          → (place ≡ chosen x y u z - 16) × (chosen x y u z - 16 ≤ 12) × (is_high (chosen x y u z - 16) ≡ false) × (due ≡ 0)
      go true true u z p q o r n m = absurd (omega arith)
      go true false u z p q o r n m = absurd (omega arith)
      go false y true z p q o r n m = absurd (omega arith)
      go false y false true p q o r n m = let l = leb-true place 6 (and_right (leb 2 place) _ (and_left _ _ r)) in absurd (omega arith)
      go false y false false p q o r n m =
          let e : 16 + place - 16 ≡ place = omega arith in
          let l = ltb-false 12 place (or_left (ltb 12 place) _ o) in
          (sym e, omega arith, ap is_high e ∙ p, due-none o)

-- ---- a high byte: TEMP takes it
kept-temp : (h : Held) (v n : ℕ) → Kept h → Valid (latest_to (temp_to h.timer v) n) → Kept (latest_in (temp_in h v) n)
unfolding next_of next_at running_of divisor_of held_of mode_of wave_of falls setting_at
kept-temp h v n k w = record { valid = w; next = k.next; flags = k.flags; shift = k.shift; idle = k.idle; small = k.small; down = k.down; scene = k.scene; top = k.top }

pub latch-right : (h : Held) (value cycle : ℕ) → Kept h → value < 256 → refusing false h.timer.clock.latest.0 h.next cycle ≡ 0
    → Latches h value cycle (latest_in (temp_in h value) cycle) (replied 0 0 0 0 h.next h.flags)
unfolding asks works says written
latch-right h value cycle k f e address high =
    plain-serves h c cycle {u = temp_to h.timer value} {a = answer.Done} {g = latest_in (temp_in h value) cycle} k (refusal_is h c cycle k timed ∙ e)
    (record { advances = refl; syncs = rw high refl; timer = rw (n, o, m) refl; log = rw n refl; values = refl; number = refl }) refl (kept-temp h value cycle k)
  where
    c : Call
    c = call.Write address value

    p : ℕ
    p = place_of h.timer.config address

    n : leb p 9 ≡ true
    n = and_left (leb p 9) (eqb (p % 2) 1) high

    o : eqb (p % 2) 1 ≡ true
    o = and_right (leb p 9) (eqb (p % 2) 1) high

    m : value % 256 ≡ value
    m = mod-eq_of_lt f

    timed : Timed h.timer c false
    timed = record { absent = let l = leb-true p 9 n in lt-leb 13 p (omega arith); wrong = refl; halted = refl; tests = rw high refl }

-- ---- a compare's low byte: the buffer takes it
-- the next event does not depend on the buffer
module _ (t : Timer) (xs : List ℕ) where
  abbrev other : Timer
  other = compares_to t t.ocr xs

  buffer-next : next_of other ≡ next_of t
  unfolding next_of next_at running_of divisor_of held_of mode_of wave_of setting_at flags_ahead events_at raised
  buffer-next = refl

kept_buffer : (h : Held) (xs : List ℕ) → Kept h → Valid (compares_to h.timer h.timer.ocr xs) → Kept (waiting_in (buffer_in h xs) xs)
unfolding running_of divisor_of held_of mode_of wave_of falls setting_at scene_of
kept_buffer h xs k v =
    let n = buffer-next h.timer xs in
    record {
      valid = v;
      next = k.next ∙ ap code_of (sym n);
      flags = k.flags ∙ ap flags_in (sym n);
      shift = k.shift;
      idle = k.idle;
      small = k.small;
      down = k.down;
      scene = ap (λ (s : Scene). waiting_to s xs) k.scene;
      top = k.top;
    }

-- which compare a place is of
placed-is : (t : Timer) (place v : ℕ) → immediate t ≡ false → 2 ≤ place → place ≤ 6 → is_high place ≡ false → written t place v ≡ silent (compares_to t t.ocr (set t.buffer (place / 2 - 1) (committed t v)))
unfolding written commit compare_to
placed-is t zero v i a b l = absurd (omega arith)
placed-is t (suc zero) v i a b l = absurd (omega arith)
placed-is t (suc (suc zero)) v i a b l = rw i refl
placed-is t (suc (suc (suc zero))) v i a b l = absurd (true≢false l)
placed-is t (suc (suc (suc (suc zero)))) v i a b l = rw i refl
placed-is t (suc (suc (suc (suc (suc zero))))) v i a b l = absurd (true≢false l)
placed-is t (suc (suc (suc (suc (suc (suc zero)))))) v i a b l = rw i refl
placed-is t (suc (suc (suc (suc (suc (suc (suc n))))))) v i a b l = absurd (omega arith)

module _ (h : Held) (place value cycle : ℕ) (k : Kept h) (w : Waits h place cycle) (f : value < 256) where
  abbrev r : Buffered
  r = buffered h place value cycle

  abbrev g : Held
  g = waiting_in (buffer_in (clock_in (counter_in h r.counter) r.clock) r.buffer) r.buffer

  abbrev q : Quiet h cycle
  q = quiet-in h cycle k w.quiet

  buffers : immediate h.timer ≡ false
  unfolding immediate setting_at wave_of scene_of
  buffers = rw k.scene at w.kind

  pub buffer-right : Stores h place value cycle g r.reply
  unfolding asks works says buffered stilled immediate mode_of committed
  buffer-right address is area = serves-of {g = g} told refl (kept_buffer (stored h cycle q) r.buffer (stored-kept h cycle q) told.valid)
    where
      c : Call
      c = call.Write address value

      x : Timer
      x = (stored h cycle q).timer

      timed : Timed h.timer c true
      timed = let l = w.last in record { absent = rw is (lt-leb 13 place (omega arith)); wrong = refl; halted = refl; tests = rw (is, w.low) refl }

      syncs : (asks h.timer c).syncs ≡ true
      syncs = let l = w.last in rw (is, w.low, ne_eqb place 12 (λ z. omega arith)) refl

      wrote : works x c cycle ≡ silent (compares_to x x.ocr r.buffer)
      wrote = rw (is, mod-eq_of_lt f) (placed-is x place value buffers w.first w.last w.low)

      told : Tells (answered ticks h.timer c cycle area) (record { answer = answer.Done; timer = latest_to (compares_to x x.ocr r.buffer) cycle; written = 0 }) area
      told = plainly h.timer c cycle area (stored-ready h cycle q c area (refusal_is h c cycle k timed ∙ w.quiet) refl syncs) (compares_to x x.ocr r.buffer) {a = answer.Done} (sym (ap (λ (z : Noted). z.timer) wrote)) (ap (λ (z : Noted). z.log) wrote) refl refl refl
