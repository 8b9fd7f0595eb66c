-- A list leaves as many bytes as its area had.
use Prim.Native.Nat.{ℕ, ◌%◌, ◌/◌, ◌≤◌}
use native.Mathlib.Omega.{arith}
use mathlib.Core.List.{List, [], ◌∷◌, ◌++◌}
use mathlib.Core.Path.{◌≡◌, refl, ◌∙◌}
use lib.Dec.{eqb}
use lib.ListN.{length, take, drop, length-append, length-drop}
use lib.Seq.{length-take-le}
use Rattle.page.proofs.Lengths.{either}
use Rattle.passage.specs.Passage.{ticks}
use Rattle.counter.specs.declared.state.Timer.{Timer}
use Rattle.answers.specs.Answers.{Told}
use Rattle.timer.specs.Calls.{answered}
use Rattle.timer.specs.declared.calls.Call.TheVariants as call
use Rattle.timer.proofs.Areas.{answered-area}
use Rattle.items.specs.Items.{items_in}
use Rattle.items.specs.declared.Item.{Item}
use Rattle.writes.specs.Writes.{Listed, stopping, wrote, worked, listed, listing}
use Rattle.writes.proofs.Rests.{answered-within, worked-within}

-- behind what was written
behind-area : (k : ℕ) (area part : List ℕ) → k ≤ length area → length part ≡ length (drop k area) → length (take k area ++ part) ≡ length area
behind-area k area part h e = omega (arith, length-append (take k area) part, length-take-le k area h, e, length-drop k area)

worked-area : (t : Timer) (i : Item) (area : List ℕ) → length (worked ticks t i area).area ≡ length area
unfolding worked wrote
worked-area t i area =
    let a = answered ticks t call.Advance i.cycle.0 area in
    let n = answered-area t call.Advance i.cycle.0 area in
    let rest = drop a.written a.area in
    let part = (answered ticks a.timer (call.Write i.address i.value) i.cycle.0 rest).area in
    either (λ (x : Told). length x.area ≡ length area) (stopping a.values) n
    (behind-area a.written a.area part (answered-within ticks t call.Advance i.cycle.0 area).upto (answered-area a.timer (call.Write i.address i.value) i.cycle.0 rest) ∙ n)

abbrev Whole : List ℕ → Listed → Type 0
Whole area y = length y.told.area ≡ length area

listed-area : (is : List Item) (t : Timer) (area : List ℕ) → Whole area (listed ticks t is area)
unfolding listed
listed-area [] t area = refl
listed-area (i ∷ is) t area =
    let x = worked ticks t i area in
    let rest = drop x.written x.area in
    either (Whole area) (stopping x.values) (worked-area t i area)
    (behind-area x.written x.area (listed ticks x.timer is rest).told.area (worked-within ticks t i area).upto (listed-area is x.timer rest) ∙ worked-area t i area)

pub listing-area : (t : Timer) (list area : List ℕ) → Whole area (listing ticks t list area)
unfolding listing
listing-area t list area = either (Whole area) (eqb (length list % 10) 0) (listed-area (items_in (length list / 10) list) t area) refl
