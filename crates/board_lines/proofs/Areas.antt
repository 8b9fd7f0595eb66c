-- No order to the board makes an area longer or shorter.
use Prim.Native.Nat.{ℕ}
use mathlib.Core.List.{List}
use mathlib.Core.Path.{◌≡◌, refl, ◌∙◌}
use lib.Dec.{eqb}
use lib.ListN.{length}
use Rattle.tick.proofs.Choices.{cond-all}
use Rattle.passage.specs.Passage.{ticks}
use Rattle.counter.specs.declared.state.Timer.{Timer}
use Rattle.answers.specs.Answers.{Told as Timer-as-Told}
use Rattle.timer.specs.declared.calls.Call.TheVariants as call
use Rattle.timer.specs.Calls.{answered}
use Rattle.timer.proofs.Areas.{Whole, answered-area}
use Rattle.m328p.specs.declared.Id.{Id}
use Rattle.m328p.specs.declared.Id.TheVariants as id
use Rattle.aims.specs.declared.Order.{Order}
use Rattle.aims.specs.declared.Cast.{Cast}
use Rattle.aims.specs.declared.Cast.TheVariants as cast
use Rattle.aims.specs.declared.Aim.{Aim}
use Rattle.aims.specs.declared.Aim.TheVariants as aim
use Rattle.aims.specs.Aims.{aim_of}
use Rattle.board.specs.declared.state.Board.{Board}
use Rattle.board.specs.State.{timer_of}
use Rattle.casts.specs.Casts.{prescaled, reached, lowest}
use Rattle.board.specs.Calls.{Areas, area_of, Told, own_told, all_told, aimed, told}

prescaled-long : (t : Timer) (mask cycle : ℕ) (area : List ℕ) (x : Timer-as-Told) → Whole area x → Whole area (prescaled ticks t mask cycle area x)
unfolding prescaled
prescaled-long t mask cycle area x h =
    let y = answered ticks x.timer (call.Prescale mask) cycle x.area in
    cond-all (Whole area) (eqb x.number 0) (cond-all (Whole area) (eqb y.number 0) (answered-area x.timer (call.Prescale mask) cycle x.area ∙ h) refl) h

reached-long : (t : Timer) (s : Cast) (cycle : ℕ) (area : List ℕ) → Whole area (reached ticks t s cycle area)
unfolding reached
reached-long t (cast.Sleep mode) cycle area = answered-area t (call.Sleep mode) cycle area
reached-long t cast.Wake cycle area = answered-area t call.Wake cycle area
reached-long t (cast.Reduce value) cycle area = answered-area t (call.Reduce value) cycle area
reached-long t (cast.Prescale mask) cycle area = answered-area t (call.Prescale mask) cycle area
reached-long t (cast.Synchronise level mask) cycle area = prescaled-long t mask cycle area (answered ticks t (call.Tsm level) cycle area) (answered-area t (call.Tsm level) cycle area)

-- each of three areas is as long as it was
pub record AsLong (was : Areas) (x : Told) : Type 0 where
  pub zero : length x.areas.zero ≡ length was.zero
  pub one : length x.areas.one ≡ length was.one
  pub two : length x.areas.two ≡ length was.two

own-long : (b : Board) (i : Id) (areas : Areas) (x : Timer-as-Told) → Whole (area_of areas i) x → AsLong areas (own_told b i areas x)
unfolding own_told
own-long b id.Zero areas x h = record { zero = h; one = refl; two = refl }
own-long b id.One areas x h = record { zero = refl; one = h; two = refl }
own-long b id.Two areas x h = record { zero = refl; one = refl; two = h }

all-long : (b : Board) (gtccr : ℕ) (areas : Areas) (x y z : Timer-as-Told) → Whole areas.zero x → Whole areas.one y → Whole areas.two z → AsLong areas (all_told b gtccr areas x y z)
unfolding all_told
all-long b gtccr areas x y z hx hy hz = cond-all (AsLong areas) (eqb (lowest x.number (lowest y.number z.number)) 0) (record { zero = hx; one = hy; two = hz }) (record { zero = refl; one = refl; two = refl })

aimed-long : (b : Board) (a : Aim) (cycle : ℕ) (areas : Areas) → AsLong areas (aimed ticks b a cycle areas)
unfolding aimed
aimed-long b aim.Nowhere cycle areas = record { zero = refl; one = refl; two = refl }
aimed-long b aim.Shown cycle areas = record { zero = refl; one = refl; two = refl }
aimed-long b (aim.Own i c) cycle areas = own-long b i areas (answered ticks (timer_of b i) c cycle (area_of areas i)) (answered-area (timer_of b i) c cycle (area_of areas i))
aimed-long b (aim.All s gtccr) cycle areas =
    all-long b gtccr areas (reached ticks b.zero s cycle areas.zero) (reached ticks b.one s cycle areas.one) (reached ticks b.two s cycle areas.two) (reached-long b.zero s cycle areas.zero) (reached-long b.one s cycle areas.one) (reached-long b.two s cycle areas.two)

pub told-long : (b : Board) (o : Order) (cycle : ℕ) (areas : Areas) → AsLong areas (told ticks b o cycle areas)
unfolding told
told-long b o cycle areas = aimed-long b (aim_of o b.gtccr) cycle areas
