-- What an order tells, over plain values: turned away, shown, one timer's own, all three.
use Prim.Native.Nat.{ℕ}
use mathlib.Core.Path.{◌≡◌, refl, sym, ap, ◌∙◌}
use mathlib.Core.List.{List}
use borrow.Author.Tests.{eq-eqb, ne_eqb}
use Rattle.passage.specs.Passage.{ticks}
use Rattle.answers.specs.declared.Answer.TheVariants as answer
use Rattle.answers.specs.declared.Outcome.{Outcome as Timer-as-Outcome}
use Rattle.answers.specs.Answers.{number_of, values_of, Told as Timer-as-Told, Tells as Timer-as-Tells}
use Rattle.timer.specs.declared.calls.Call.{Call}
use Rattle.timer.specs.Calls.{answered}
use Rattle.m328p.specs.declared.Id.{Id}
use Rattle.m328p.specs.declared.Id.TheVariants as id
use Rattle.aims.specs.declared.Order.{Order}
use Rattle.aims.specs.declared.Cast.{Cast}
use Rattle.aims.specs.declared.Aim.{Aim}
use Rattle.aims.specs.declared.Aim.TheVariants as aim
use Rattle.aims.specs.Aims.{aim_of}
use Rattle.casts.specs.Casts.{reached, lowest}
use Rattle.casts.proofs.Silent.{reached-silent}
use Rattle.board.specs.declared.state.Board.{Board}
use Rattle.board.specs.declared.outcome.Outcome.{Outcome}
use Rattle.board.specs.declared.outcome.Written.{Written}
use Rattle.board.specs.State.{Valid, board_to, board_all}
use Rattle.board.specs.Calls.{Areas, areas_to, written_of, nothing, own_told, all_told, aimed, told, Tells, Took}

-- ---- what the code keeps of a timer's own call
module _ (b : Board) (i : Id) (o : Timer-as-Outcome) {n : ℕ} {w : Written} (e : n ≡ number_of o.answer) (g : w ≡ written_of i o.written) where
  pub took-none : Valid b → (n ≡ 0 → ⊥) → Took b i o (record { answer = o.answer; board = b; written = w })
  took-none v k = record { outcome = rw (g, ne_eqb (number_of o.answer) 0 (λ z. k (e ∙ z))); valid = v }

  pub took_it : {c : Board} → n ≡ 0 → (c ≡ board_to b i o.timer) × Valid c → Took b i o (record { answer = o.answer; board = c; written = w })
  took_it z h = record { outcome = rw (g, eq-eqb (number_of o.answer) 0 (sym e ∙ z), h.0); valid = h.1 }

-- ---- one timer's own call

own-told : (b : Board) (i : Id) (areas : Areas) (x : Timer-as-Told) {o : Timer-as-Outcome} {after : List ℕ} {r : Outcome} → Timer-as-Tells x o after → Took b i o r
    → Tells (own_told b i areas x) r (areas_to areas i after).zero (areas_to areas i after).one (areas_to areas i after).two
unfolding own_told
own-told b i areas x {o} {after} {r} h k =
    record {
      board = ap (λ (z : Outcome). z.board) k.outcome ∙ rw (h.number, h.timer);
      number = ap (λ (z : Outcome). number_of z.answer) k.outcome ∙ h.number;
      values = ap (λ (z : Outcome). values_of z.answer) k.outcome ∙ h.values;
      written = ap (λ (z : Outcome). z.written) k.outcome ∙ rw h.written;
      zero = rw h.area;
      one = rw h.area;
      two = rw h.area;
      valid = k.valid;
    }

module _ (b : Board) (i : Id) (c : Call) (cycle : ℕ) (areas : Areas) {o : Timer-as-Outcome} {after : List ℕ} {r : Outcome} where
  pub own-zero : i ≡ id.Zero → Timer-as-Tells (answered ticks b.zero c cycle areas.zero) o after → Took b i o r
      → Tells (aimed ticks b (aim.Own i c) cycle areas) r after areas.one areas.two
  unfolding aimed
  own-zero e h k = rw e (own-told b id.Zero areas _ h (rw e at k))

  pub own-one : i ≡ id.One → Timer-as-Tells (answered ticks b.one c cycle areas.one) o after → Took b i o r
      → Tells (aimed ticks b (aim.Own i c) cycle areas) r areas.zero after areas.two
  unfolding aimed
  own-one e h k = rw e (own-told b id.One areas _ h (rw e at k))

  pub own-two : i ≡ id.Two → Timer-as-Tells (answered ticks b.two c cycle areas.two) o after → Took b i o r
      → Tells (aimed ticks b (aim.Own i c) cycle areas) r areas.zero areas.one after
  unfolding aimed
  own-two e h k = rw e (own-told b id.Two areas _ h (rw e at k))

-- ---- all three

module _ (b : Board) (s : Cast) (gtccr cycle : ℕ) (areas : Areas) {x y z : Timer-as-Outcome} {ax ay az : List ℕ} (v : Valid b)
    (hx : Timer-as-Tells (reached ticks b.zero s cycle areas.zero) x ax)
    (hy : Timer-as-Tells (reached ticks b.one s cycle areas.one) y ay)
    (hz : Timer-as-Tells (reached ticks b.two s cycle areas.two) z az)
    {nx ny nz m n : ℕ} (ex : nx ≡ number_of x.answer) (ey : ny ≡ number_of y.answer) (ez : nz ≡ number_of z.answer)
    (em : m ≡ lowest ny nz) (en : n ≡ lowest nx m) where
  number_is : lowest (reached ticks b.zero s cycle areas.zero).number (lowest (reached ticks b.one s cycle areas.one).number (reached ticks b.two s cycle areas.two).number) ≡ n
  number_is = rw (en, em, ex, ey, ez, hx.number, hy.number, hz.number)

  pub all-refused : {r : Outcome} → (n ≡ 0 → ⊥) → r ≡ record { answer = answer.Refused n; board = b; written = nothing } → Tells (aimed ticks b (aim.All s gtccr) cycle areas) r ax ay az
  unfolding aimed all_told
  all-refused k q =
      rw (q, number_is, ne_eqb n 0 k)
      (record {
        board = refl;
        number = refl;
        values = refl;
        written = refl;
        zero = hx.area ∙ (reached-silent b.zero s cycle areas.zero v.zero).area;
        one = hy.area ∙ (reached-silent b.one s cycle areas.one v.one).area;
        two = hz.area ∙ (reached-silent b.two s cycle areas.two v.two).area;
        valid = v;
      })

  pub all-taken : {c : Board} → n ≡ 0 → (c ≡ board_all b x.timer y.timer z.timer gtccr) × Valid c
      → Tells (aimed ticks b (aim.All s gtccr) cycle areas) (record { answer = answer.Done; board = c; written = record { zero = x.written; one = y.written; two = z.written } }) ax ay az
  unfolding aimed all_told
  all-taken k q =
      rw (number_is, eq-eqb n 0 k)
      (record {
        board = q.0 ∙ rw (hx.timer, hy.timer, hz.timer);
        number = refl;
        values = refl;
        written = rw (hx.written, hy.written, hz.written);
        zero = hx.area;
        one = hy.area;
        two = hz.area;
        valid = q.1;
      })

-- ---- the orders
module _ (b : Board) (o : Order) (cycle : ℕ) (areas : Areas) {a : Aim} (e : a ≡ aim_of o b.gtccr) where
  -- what the aim tells
  pub aim-tells : (g : Aim) {r : Outcome} {ax ay az : List ℕ} → a ≡ g → Tells (aimed ticks b g cycle areas) r ax ay az → Tells (told ticks b o cycle areas) r ax ay az
  unfolding told
  aim-tells g h k = rw (sym e ∙ h) k

  pub nowhere-tells : {r : Outcome} → Valid b → a ≡ aim.Nowhere → r ≡ record { answer = answer.Refused 16; board = b; written = nothing }
      → Tells (told ticks b o cycle areas) r areas.zero areas.one areas.two
  unfolding aimed
  nowhere-tells v h q = aim-tells aim.Nowhere h (rw q (record { board = refl; number = refl; values = refl; written = refl; zero = refl; one = refl; two = refl; valid = v }))

  pub shown-tells : {w : Written} → Valid b → a ≡ aim.Shown → w ≡ nothing
      → Tells (told ticks b o cycle areas) (record { answer = answer.Value b.gtccr; board = b; written = w }) areas.zero areas.one areas.two
  unfolding aimed
  shown-tells v h q = aim-tells aim.Shown h (rw q (record { board = refl; number = refl; values = refl; written = refl; zero = refl; one = refl; two = refl; valid = v }))
