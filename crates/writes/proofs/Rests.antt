-- A call in what is left of an area: the part that is lent, the area with the part back, and that the records written lie in it.
use Prim.Native.Nat.{ℕ, ◌+◌, ◌-◌, ◌≤◌}
use native.Mathlib.Omega.{arith}
use mathlib.Core.Path.{◌≡◌, refl, sym, ap, ◌∙◌}
use mathlib.Core.Bool.{Bool, true, false, cond}
use mathlib.Core.List.{List, [], ◌∷◌, ◌++◌, append-nil}
use lib.ListN.{length, take, drop, length-append, length-drop}
use lib.Seq.{take_all, length-take-le}
use Rattle.counter.specs.declared.state.Timer.{Timer}
use Rattle.passage.specs.Passage.{Passage, ticks}
use Rattle.tick.proofs.Choices.{cond-all}
use Rattle.answers.specs.declared.Outcome.{Outcome}
use Rattle.answers.specs.Answers.{Told, Values, given, turned, Tells, values_of}
use Rattle.timer.specs.declared.calls.Call.{Call}
use Rattle.timer.specs.declared.calls.Call.TheVariants as call
use Rattle.counter.specs.Halts.{latest_to}
use Rattle.counter.specs.Passage.{Passed, advanced}
use Rattle.records.specs.Records.{records_of}
use Rattle.timer.specs.Calls.{asks, works, says, before, refusal_of, answered, performed, moved, worked as callWorked}
use lib.Dec.{eqb, leb}
use Rattle.items.specs.declared.Item.{Item}
use Rattle.writes.specs.Writes.{stopping, behind, wrote, worked}

-- ---- a part lent, and back

-- the part from a place on, as it is lent
abbrev pub left : ℕ → List ℕ → List ℕ
left n area = take (length area - n) (drop n area)

-- the area with the part back
abbrev pub back : ℕ → List ℕ → List ℕ → List ℕ
back n area part = take n area ++ (part ++ drop (length area - n) (drop n area))

pub left_is : (n : ℕ) (area : List ℕ) → left n area ≡ drop n area
left_is n area = take_all (length area - n) (drop n area) (simp length-drop (omega arith))

none_left : {A : Type 0} (l : List A) → length l ≡ 0 → l ≡ []
none_left [] e = refl
none_left (x ∷ xs) e = let z : ◌≡◌ {A = ℕ} 0 1 = omega arith in cc

pub back_is : (n : ℕ) (area part : List ℕ) → back n area part ≡ take n area ++ part
back_is n area part =
    let e : drop (length area - n) (drop n area) ≡ [] = none_left _ (simp length-drop (omega arith)) in
    rw (e, append-nil)

pub back_long : (n : ℕ) (area part : List ℕ) → n ≤ length area → length part ≡ length (left n area) → length (back n area part) ≡ length area
back_long n area part h e = rw back_is (simp (length-append, length-take-le n area h, e, left_is, length-drop) (omega arith))

-- ---- a call answered is turned away, or given with its records
module _ (Q : Told → Type 0) (p : Passage) (t : Timer) (c : Call) (cycle : ℕ) (area : List ℕ) (good : (u : Timer) (v : Values) (bytes : List ℕ) → Q (given u v bytes area))
    (away : (n : ℕ) (u : Timer) → Q (turned n u area)) where
  worked-all : (x : Passed) → Q (callWorked x t c cycle area)
  unfolding callWorked
  worked-all x =
      let bytes : List ℕ = x.bytes ++ records_of cycle (works x.timer c cycle).log in
      cond-all Q (leb (length bytes) (length area)) (good (latest_to (works x.timer c cycle).timer cycle) (says x.timer c) bytes) (away 8 t)

  pub answered-all : Q (answered p t c cycle area)
  unfolding answered performed moved
  answered-all =
      cond-all Q (eqb (refusal_of t c cycle) 0)
      (cond-all Q (asks t c).advances (good _ _ (advanced p t cycle (length area)).bytes) (worked-all (before p t (asks t c).syncs cycle)))
      (away (refusal_of t c cycle) t)

-- ---- what is written lies in the area
pub record Within (x : Told) : Type 0 where
  pub upto : x.written ≤ length x.area

given-within : (t : Timer) (v : Values) (bytes area : List ℕ) → Within (given t v bytes area)
given-within t v bytes area = record { upto = simp length-append (omega arith) }

turned-within : (n : ℕ) (t : Timer) (area : List ℕ) → Within (turned n t area)
turned-within n t area = record { upto = omega arith }

pub answered-within : (p : Passage) (t : Timer) (c : Call) (cycle : ℕ) (area : List ℕ) → Within (answered p t c cycle area)
answered-within p t c cycle area = answered-all Within p t c cycle area (λ u v bytes. given-within u v bytes area) (λ n u. turned-within n u area)

pub behind-within : (n : ℕ) (area : List ℕ) (x : Told) → n ≤ length area → Within x → Within (behind n area x)
behind-within n area x h w = record { upto = simp (length-append, length-take-le n area h) (omega arith) }

pub worked-within : (p : Passage) (t : Timer) (i : Item) (area : List ℕ) → Within (worked p t i area)
unfolding worked wrote
worked-within p t i area =
    let a = answered p t call.Advance i.cycle.0 area in
    let h = answered-within p t call.Advance i.cycle.0 area in
    cond-all Within (stopping a.values) h (behind-within a.written a.area _ h.upto (answered-within p a.timer (call.Write i.address i.value) i.cycle.0 (drop a.written a.area)))

-- so it lies in the part that was lent
pub inside : {x : Told} {r : Outcome} {after : List ℕ} → Within x → Tells x r after → r.written ≤ length after
inside w h = rw (h.written, h.area) w.upto

-- behind what was written before, it lies in the whole area
pub inside_both : (n : ℕ) (area : List ℕ) {x : Told} {w : Outcome} {part : List ℕ} → n ≤ length area → Within x → Tells x w part → length part ≡ length (left n area)
    → n + w.written ≤ length area
inside_both n area h i k e = omega (arith, inside i k, e ∙ ap length (left_is n area) ∙ length-drop n area)

-- ---- an item's two calls

-- the side that a test chooses
first-is : {A : Type 0} (Q : A → Type 0) (b : Bool) (x y : A) → b ≡ true → Q x → Q (cond b x y)
first-is Q b x y e h = rw e h

second_is : {A : Type 0} (Q : A → Type 0) (b : Bool) (x y : A) → b ≡ false → Q y → Q (cond b x y)
second_is Q b x y e h = rw e h

-- a test of the code's answer is the test of what it tells
pub stop-told : {x : Told} {r : Outcome} {after : List ℕ} {b d : Bool} → Tells x r after → b ≡ stopping (values_of r.answer) → b ≡ d
    → stopping x.values ≡ d
stop-told h e g = rw (← h.values) (sym e ∙ g)

pub stopped : (t : Timer) (i : Item) (before : List ℕ) {a : Outcome} {mid : List ℕ} {b : Bool} → Tells (answered ticks t call.Advance i.cycle.0 before) a mid
    → b ≡ stopping (values_of a.answer) → b ≡ true → Tells (worked ticks t i before) a mid
unfolding worked wrote
stopped t i before {a} {mid} h e g = first-is (λ (z : Told). Tells z a mid) _ _ _ (stop-told h e g) h

-- a call's outcome in a part is its outcome behind what stands before
pub put-behind : (n : ℕ) (area : List ℕ) {x : Told} {w : Outcome} {part : List ℕ} → Tells x w part
    → Tells (behind n area x) (record { answer = w.answer; timer = w.timer; written = n + w.written }) (back n area part)
put-behind n area {x} {w} {part} h =
    record {
      timer = h.timer;
      number = h.number;
      values = h.values;
      written = rw h.written;
      area = back_is n area part ∙ rw h.area;
      valid = h.valid;
    }

pub both : (t : Timer) (i : Item) (before : List ℕ) {a w : Outcome} {mid part : List ℕ} {b : Bool} → Tells (answered ticks t call.Advance i.cycle.0 before) a mid
    → b ≡ stopping (values_of a.answer) → b ≡ false
    → Tells (answered ticks a.timer (call.Write i.address i.value) i.cycle.0 (left a.written mid)) w part
    → Tells (worked ticks t i before) (record { answer = w.answer; timer = w.timer; written = a.written + w.written }) (back a.written mid part)
unfolding worked wrote
both t i before {a} {w} {mid} {part} h e g k =
    second_is (λ (z : Told). Tells z (record { answer = w.answer; timer = w.timer; written = a.written + w.written }) (back a.written mid part)) _ _ _ (stop-told h e g)
    (rw (← h.timer, ← h.written, ← h.area) (put-behind a.written mid (rw left_is at k)))
