-- The list item after item: what is still to come of it, behind what is done, is the whole list.
use Prim.Native.Nat.{ℕ, suc, ◌+◌, ◌-◌, ◌*◌, ◌/◌, ◌%◌, ◌≤◌, ◌<◌}
use native.Mathlib.Omega.{arith}
use native.Mathlib.Nat.{zero-add, add-zero, add_assoc, sub-zero}
use mathlib.Core.Path.{◌≡◌, refl, sym, ap, ◌∙◌}
use mathlib.Core.Bool.{Bool, true, false}
use mathlib.Core.List.{List, ◌∷◌, ◌++◌, append_assoc}
use lib.ListN.{length, take, drop, take-append-drop}
use lib.Seq.{length-take-le, take-append-add, drop-append-add, drop-drop}
use borrow.Author.Tests.{eq-eqb, ne_eqb}
use Rattle.counter.specs.declared.state.Timer.{Timer}
use Rattle.counter.specs.Valid.{Valid}
use Rattle.passage.specs.Passage.{ticks}
use Rattle.answers.specs.declared.Answer.{Answer}
use Rattle.answers.specs.declared.Answer.TheVariants as answer
use Rattle.answers.specs.declared.Outcome.{Outcome}
use Rattle.answers.specs.Answers.{none, Tells, number_of, values_of}
use Rattle.answers.proofs.Determined.{determined}
use Rattle.items.specs.declared.Item.{Item}
use Rattle.writes.specs.declared.Why.{Why}
use Rattle.writes.specs.declared.Why.TheVariants as why
use Rattle.items.specs.Items.{item_in, items_in}
use Rattle.writes.specs.Writes.{stopping, worked, Listed, after, listed, listing, why_of, reason_of, Lists}
use Rattle.writes.proofs.Rests.{left, back, left_is, back_is, back_long, stop-told, put-behind, worked-within, inside_both}

-- ---- behind what is done

-- bytes behind bytes
pub take_after : (n m : ℕ) (area part : List ℕ) → n ≤ length area → take (n + m) (take n area ++ part) ≡ take n area ++ take m part
take_after n m area part h = ap (λ (k : ℕ). take (k + m) (take n area ++ part)) (sym (length-take-le n area h)) ∙ take-append-add (take n area) part m

-- one item more done, and its bytes
pub after-after : (k n m : ℕ) (area part : List ℕ) (y : Listed) → n ≤ length area → after k n area (after 1 m part y) ≡ after (k + 1) (n + m) (take n area ++ part) y
after-after k n m area part y h =
    rw (take_after n m area part h, append_assoc, add_assoc k 1 y.done, add_assoc n m y.told.written)

-- what is left of the area after it
pub left_after : (n m : ℕ) (area part : List ℕ) → n ≤ length area → drop (n + m) (take n area ++ part) ≡ drop m part
left_after n m area part h = let e = length-take-le n area h in ap (λ (k : ℕ). drop (k + m) (take n area ++ part)) (sym e) ∙ drop-append-add (take n area) part m

-- ---- the items that are left

abbrev pub count : List ℕ → ℕ
count list = length list / 10

unfoldable pub items_left : (list : List ℕ) (done : ℕ) → List Item
items_left list done = items_in (count list - done) (drop (done * 10) list)

next-item : (list : List ℕ) (done : ℕ) → done < count list → items_left list done ≡ item_in (take 10 (drop (done * 10) list)) ∷ items_left list (done + 1)
unfolding items_left items_in
next-item list done h =
    let e : count list - done ≡ suc (count list - (done + 1)) = omega arith in
    let d : done * 10 + 10 ≡ (done + 1) * 10 = omega arith in
    rw (e, drop-drop, d)

-- ---- the loop

-- the timer after so many items, the bytes written and the area, of a list that began with another
pub record Going (t : Timer) (list before : List ℕ) (u : Timer) (done to : ℕ) (area : List ℕ) : Type 0 where
  pub rest : after done to area (listed ticks u (items_left list done) (drop to area)) ≡ listed ticks t (items_left list 0) before
  pub valid : Valid u
  pub room : to ≤ length area
  pub long : length area ≡ length before
  pub upto : done ≤ count list

pub begins : (t : Timer) (list area : List ℕ) → Valid t → Going t list area t 0 0 area
begins t list area v =
    record { rest = simp zero-add; valid = v; room = omega arith; long = refl; upto = omega arith }

-- an item that does not stop
pub goes_on : (t : Timer) (list before : List ℕ) (u : Timer) (done to : ℕ) (area : List ℕ) {i : Item} {o : Outcome} {part : List ℕ} {b : Bool}
    → Going t list before u done to area → done < count list → i ≡ item_in (take 10 (drop (done * 10) list))
    → Tells (worked ticks u i (left to area)) o part → b ≡ stopping (values_of o.answer) → b ≡ false → length part ≡ length (left to area)
    → Going t list before o.timer (done + 1) (to + o.written) (back to area part)
unfolding listed
goes_on t list before u done to area {i} {o} {part} {b} g l e h s f k =
    let w : Tells (worked ticks u (item_in (take 10 (drop (done * 10) list))) (drop to area)) o part = rw (e, left_is) at h in
    let n : listed ticks u (items_left list done) (drop to area) ≡ after 1 o.written part (listed ticks o.timer (items_left list (done + 1)) (drop o.written part)) =
    rw (next-item list done l, stop-told w s f, ← w.timer, ← w.written, ← w.area) in
    let x : to + o.written ≤ length area = inside_both to area g.room (worked-within ticks u i (left to area)) h k in
    record {
      rest = rw (back_is, left_after to o.written area part g.room) (sym (after-after done to o.written area part _ g.room) ∙ ap (after done to area) (sym n) ∙ g.rest);
      valid = h.valid;
      room = rw (back_long to area part g.room k) x;
      long = back_long to area part g.room k ∙ g.long;
      upto = omega arith;
    }

-- ---- its end

-- a multiple of ten
whole : (t : Timer) (list area : List ℕ) → length list % 10 ≡ 0 → listing ticks t list area ≡ listed ticks t (items_left list 0) area
unfolding listing items_left
whole t list area e = rw (eq-eqb (length list % 10) 0 e, sub-zero)

-- 12
pub uneven : (t : Timer) (list area : List ℕ) → Valid t → (length list % 10 ≡ 0 → ⊥)
    → Lists (listing ticks t list area) (record { timer = t; done = 0; written = 0; why = why.Refused 12 }) area
unfolding listing
uneven t list area v h =
    rw (ne_eqb (length list % 10) 0 h) (record { done = refl; why = refl; told = record { timer = refl; number = refl; values = refl; written = refl; area = refl; valid = v } })

-- the number and the values of an answer that stops are those of the reason
number-kept : (a : Answer) → number_of (reason_of (why_of a)) ≡ number_of a
number-kept (answer.Refused n) = refl
number-kept answer.Done = refl
number-kept (answer.Value v) = refl
number-kept (answer.Next n) = refl
number-kept (answer.Reached f) = refl
number-kept (answer.Paused c f) = refl

values-kept : (a : Answer) → stopping (values_of a) ≡ true → values_of (reason_of (why_of a)) ≡ values_of a
values-kept (answer.Refused n) e = refl
values-kept answer.Done e = refl
values-kept (answer.Value v) e = cc
values-kept (answer.Next n) e = cc
values-kept (answer.Reached f) e = cc
values-kept (answer.Paused c f) e = refl

pub stops-there : (t : Timer) (list before : List ℕ) (u : Timer) (done to : ℕ) (area : List ℕ) {i : Item} {o : Outcome} {part : List ℕ} {b : Bool} {y : Why}
    → length list % 10 ≡ 0 → Going t list before u done to area → done < count list → i ≡ item_in (take 10 (drop (done * 10) list))
    → Tells (worked ticks u i (left to area)) o part → b ≡ stopping (values_of o.answer) → b ≡ true → y ≡ why_of o.answer
    → Lists (listing ticks t list before) (record { timer = o.timer; done = done; written = to + o.written; why = y }) (back to area part)
unfolding listed
stops-there t list before u done to area {i} {o} {part} {b} {y} m g l e h s f q =
    let w : Tells (worked ticks u (item_in (take 10 (drop (done * 10) list))) (drop to area)) o part = rw (e, left_is) at h in
    let n : listed ticks u (items_left list done) (drop to area) ≡ record { done = 0; told = worked ticks u (item_in (take 10 (drop (done * 10) list))) (drop to area) } =
    rw (next-item list done l, stop-told w s f) in
    let p = put-behind to area w in
    rw (whole t list before m, ← g.rest, n, q)
    (record {
      done = sym (add-zero done);
      why = sym (ap why_of (determined o.answer)) ∙ rw (w.number, w.values);
      told = record {
        timer = p.timer;
        number = number-kept o.answer ∙ p.number;
        values = values-kept o.answer (sym s ∙ f) ∙ p.values;
        written = p.written;
        area = p.area;
        valid = p.valid;
      };
    })

pub all_done : (t : Timer) (list before : List ℕ) (u : Timer) (done to : ℕ) (area : List ℕ) → length list % 10 ≡ 0 → Going t list before u done to area → count list ≤ done
    → Lists (listing ticks t list before) (record { timer = u; done = done; written = to; why = why.AllDone }) area
unfolding listed items_left items_in
all_done t list before u done to area m g l =
    let z : count list - done ≡ 0 = omega arith in
    let n : listed ticks u (items_left list done) (drop to area) ≡ record { done = 0; told = record { timer = u; number = 0; values = none; written = 0; area = drop to area } } = rw z in
    rw (whole t list before m, ← g.rest, n)
    (record {
      done = sym (add-zero done);
      why = refl;
      told = record { timer = refl; number = refl; values = refl; written = sym (add-zero to); area = sym (take-append-drop to area); valid = g.valid };
    })
