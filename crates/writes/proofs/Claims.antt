-- The claims of specs/Claims.antt.
use Prim.Native.Nat.{ℕ, ◌/◌}
use native.Mathlib.Omega.{arith}
use mathlib.Core.Path.{◌≡◌, refl, sym, ap, ◌∙◌}
use mathlib.Core.Bool.{Bool, true, false}
use mathlib.Core.List.{List, [], ◌∷◌, ◌++◌, append-nil}
use lib.ListN.{length, take, drop}
use lib.Seq.{drop_at, drop-drop}
use Rattle.counter.specs.declared.state.Timer.{Timer}
use Rattle.counter.specs.Valid.{Valid}
use Rattle.passage.specs.Passage.{Passage, ticks, events}
use Rattle.tick.proofs.Choices.{cond-all}
use Rattle.answers.specs.Answers.{Told}
use Rattle.timer.specs.declared.calls.Call.{Call}
use Rattle.timer.specs.declared.calls.Call.TheVariants as call
use Rattle.timer.specs.Calls.{answered}
use Rattle.timer.specs.Claims.{Request, told, outcomes, last}
use Rattle.timer.proofs.Alike.{told-alike}
use Rattle.timer.proofs.Keeps.{call-keeps}
use Rattle.items.specs.declared.Item.{Item}
use Rattle.items.specs.Items.{items_in}
use Rattle.writes.specs.Writes.{stopping, behind, wrote, worked, Listed, after, listed, listing}
use Rattle.writes.specs.Claims.{ListsAlike, EmptyList, singles, requests, records_in, going, number_in, values_in, AsSingles, Matches, SingleCalls}
use Rattle.writes.proofs.Rests.{answered-all, answered-within}
use Rattle.writes.proofs.Lists.{take_after, after-after, left_after}

-- ---- alike
calls-alike : (t : Timer) (c : Call) (cycle : ℕ) (area : List ℕ) → Valid t → answered events t c cycle area ≡ answered ticks t c cycle area
calls-alike t c cycle area v = told-alike t (record { call = c; cycle = cycle; area = area }) v

calls-keep : (t : Timer) (c : Call) (cycle : ℕ) (area : List ℕ) → Valid t → Valid (answered ticks t c cycle area).timer
calls-keep t c cycle area v = call-keeps t (record { call = c; cycle = cycle; area = area }) v

worked-alike : (t : Timer) (i : Item) (area : List ℕ) → Valid t → worked events t i area ≡ worked ticks t i area
unfolding worked wrote
worked-alike t i area v = rw (calls-alike t call.Advance i.cycle.0 area v, calls-alike _ (call.Write i.address i.value) i.cycle.0 _ (calls-keep t call.Advance i.cycle.0 area v))

record Lasting (x : Told) : Type 0 where
  valid : Valid x.timer

worked-keeps : (t : Timer) (i : Item) (area : List ℕ) → Valid t → Valid (worked ticks t i area).timer
unfolding worked wrote
worked-keeps t i area v =
    let a = answered ticks t call.Advance i.cycle.0 area in
    let k = calls-keep t call.Advance i.cycle.0 area v in
    (cond-all Lasting (stopping a.values) (record { valid = k })
    (record { valid = calls-keep a.timer (call.Write i.address i.value) i.cycle.0 (drop a.written a.area) k })).valid

listed-alike : (t : Timer) (is : List Item) (area : List ℕ) → Valid t → listed events t is area ≡ listed ticks t is area
unfolding listed
listed-alike t [] area v = refl
listed-alike t (i ∷ is) area v =
    rw (worked-alike t i area v, listed-alike (worked ticks t i area).timer is (drop (worked ticks t i area).written (worked ticks t i area).area) (worked-keeps t i area v))

pub lists-alike : ListsAlike
unfolding listing
lists-alike t list area v = rw (listed-alike t (items_in (length list / 10) list) area v)

-- ---- the empty list
pub empty-list : EmptyList
unfolding listing listed items_in
empty-list p t area = refl

-- ---- single calls

-- behind its records a call leaves the area as it was
record Leaving (area : List ℕ) (x : Told) : Type 0 where
  rest : drop x.written x.area ≡ drop x.written area

told-leaves : (p : Passage) (t : Timer) (q : Request) → Leaving q.area (told p t q)
told-leaves p t q =
    answered-all (Leaving q.area) p t q.call q.cycle q.area
    (λ u v bytes. record { rest = drop_at bytes (drop (length bytes) q.area) (length bytes) refl }) (λ n u. record { rest = refl })

-- a call that stops, alone
alone : (p : Passage) (t : Timer) (q : Request) → stopping (told p t q).values ≡ true → AsSingles p t (q ∷ []) q.area (told p t q)
unfolding outcomes last records_in number_in values_in
alone p t q e =
    record { timer = refl; number = rw e; values = rw e; records = sym (append-nil (take (told p t q).written (told p t q).area)); rest = (told-leaves p t q).rest }

-- a call that does not stop, and the rest in what it leaves
joined : (p : Passage) (t : Timer) (q : Request) (qs : List Request) (y : Told) → stopping (told p t q).values ≡ false
    → AsSingles p (told p t q).timer qs (drop (told p t q).written (told p t q).area) y
    → AsSingles p t (q ∷ qs) q.area (behind (told p t q).written (told p t q).area y)
unfolding outcomes last records_in number_in values_in
joined p t q qs y e g =
    let x = told p t q in
    let w = (answered-within p t q.call q.cycle q.area).upto in
    record {
      timer = g.timer;
      number = rw e g.number;
      values = rw e g.values;
      records = take_after x.written y.written x.area y.area w ∙ ap (λ (l : List ℕ). take x.written x.area ++ l) g.records;
      rest = left_after x.written y.written x.area y.area w ∙ g.rest ∙ ap (drop y.written) (told-leaves p t q).rest ∙ drop-drop y.written x.written q.area;
    }

-- a list that begins with an item: its advance stops, or its write, or neither
module _ (p : Passage) (t : Timer) (i : Item) (is : List Item) (area : List ℕ) where
  abbrev moving : Request
  moving = record { call = call.Advance; cycle = i.cycle.0; area = area }

  abbrev moved_to : Told
  moved_to = told p t moving

  abbrev writing : Request
  writing = record { call = call.Write i.address i.value; cycle = i.cycle.0; area = drop moved_to.written moved_to.area }

  abbrev written-to : Told
  written-to = told p moved_to.timer writing

  unfoldable Item-matches : Type 0
  Item-matches = Matches p t (requests p t (singles (i ∷ is)) area) area (listed p t (i ∷ is) area)

  advance-stops : stopping moved_to.values ≡ true → Item-matches
  unfolding Item-matches requests singles listed worked wrote outcomes going
  advance-stops e =
      let w : worked p t i area ≡ moved_to = rw e in
      let l : listed p t (i ∷ is) area ≡ record { done = 0; told = moved_to } = rw (w, e) in
      let q : requests p t (singles (i ∷ is)) area ≡ moving ∷ [] = rw e in
      rw (l, q) (record { told = alone p t moving e; done = rw e })

  write-stops : stopping moved_to.values ≡ false → stopping written-to.values ≡ true → Item-matches
  unfolding Item-matches requests singles listed worked wrote outcomes going
  write-stops e f =
      let w : worked p t i area ≡ behind moved_to.written moved_to.area written-to = rw e in
      let l : listed p t (i ∷ is) area ≡ record { done = 0; told = behind moved_to.written moved_to.area written-to } = rw (w, f) in
      let q : requests p t (singles (i ∷ is)) area ≡ moving ∷ writing ∷ [] = rw (e, f) in
      rw (l, q) (record { told = joined p t moving (writing ∷ []) written-to e (alone p moved_to.timer writing f); done = rw (e, f) })

  abbrev left-list : Listed
  left-list = listed p written-to.timer is (drop written-to.written written-to.area)

  abbrev left-requests : List Request
  left-requests = requests p written-to.timer (singles is) (drop written-to.written written-to.area)

  neither-stops : stopping moved_to.values ≡ false → stopping written-to.values ≡ false
      → Matches p written-to.timer left-requests (drop written-to.written written-to.area) left-list → Item-matches
  unfolding Item-matches requests singles listed worked wrote outcomes going
  neither-stops e f g =
      let n = (answered-within p t call.Advance i.cycle.0 area).upto in
      let w : worked p t i area ≡ behind moved_to.written moved_to.area written-to = rw e in
      let l : listed p t (i ∷ is) area ≡ after 0 moved_to.written moved_to.area (after 1 written-to.written written-to.area left-list) =
      rw (w, f, left_after moved_to.written written-to.written moved_to.area written-to.area n)
      (sym (after-after 0 moved_to.written written-to.written moved_to.area written-to.area left-list n)) in
      let q : requests p t (singles (i ∷ is)) area ≡ moving ∷ writing ∷ left-requests = rw (e, f) in
      rw (l, q)
      (record {
        told = joined p t moving (writing ∷ left-requests) _ e (joined p moved_to.timer writing left-requests left-list.told f g.told);
        done = rw (e, f, g.done) (omega arith);
      })

  by-stops : (b : Bool) → stopping moved_to.values ≡ b → (d : Bool) → stopping written-to.values ≡ d
      → Matches p written-to.timer left-requests (drop written-to.written written-to.area) left-list → Item-matches
  by-stops true e d f g = advance-stops e
  by-stops false e true f g = write-stops e f
  by-stops false e false f g = neither-stops e f g

pub single-calls : SingleCalls
unfolding Item-matches requests singles listed outcomes last records_in number_in values_in going
single-calls p t [] area = record { told = record { timer = refl; number = refl; values = refl; records = refl; rest = refl }; done = refl }
single-calls p t (i ∷ is) area =
    by-stops p t i is area _ refl _ refl (single-calls p (written-to p t i is area).timer is (drop (written-to p t i is area).written (written-to p t i is area).area))
