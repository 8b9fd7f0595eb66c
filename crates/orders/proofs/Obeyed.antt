-- What `step` promises, of what its callees do; numbers that name no order.
use Prim.Native.Nat.{ℕ, zero, suc, ◌≤◌}
use native.Mathlib.Omega.{arith}
use mathlib.Core.List.{List, [], ◌∷◌}
use mathlib.Core.Path.{◌≡◌, refl, sym}
use lib.ListN.{length}
use Rattle.passage.specs.Passage.{ticks}
use Rattle.answers.specs.declared.Answer.TheVariants as answer
use Rattle.aims.specs.declared.Order.{Order}
use Rattle.board.specs.declared.state.Board.{Board}
use Rattle.board.specs.declared.outcome.Outcome.{Outcome}
use Rattle.board.specs.State.{Valid}
use Rattle.board.specs.Calls.{Areas, Told, told, turned, nothing, areas_of, Tells}
use Rattle.orders.specs.declared.Ordered.{Ordered}
use Rattle.orders.specs.declared.Moved.{Moved}
use Rattle.orders.specs.declared.Meant.{Meant}
use Rattle.orders.specs.declared.Meant.TheVariants as meant
use Rattle.orders.specs.Orders.{meant_at, meant_by, order_of, replied_of, moved_of, told_to, Obeys}

-- a number past the list of orders names none, and neither does an id past 2
pub meant-past : (os : List Order) (n : ℕ) → length os ≤ n → meant_at os n ≡ meant.Unknown
meant-past [] n h = refl
meant-past (o ∷ os) zero h = absurd (omega arith)
meant-past (o ∷ os) (suc n) h = meant-past os n (omega arith)

pub nobody : (q : Ordered) (n : ℕ) → 3 ≤ n → meant_by n q ≡ meant.Unknown
nobody q zero h = absurd (omega arith)
nobody q (suc zero) h = absurd (omega arith)
nobody q (suc (suc zero)) h = absurd (omega arith)
nobody q (suc (suc (suc n))) h = refl

-- a number that is at least k and not k is at least the next
pub further : (k n : ℕ) → k ≤ n → (n ≡ k → ⊥) → suc k ≤ n
further k n h e = omega arith

-- the order that the numbers name, told
pub known_tells : (b : Board) (q : Ordered) (m : Meant) (o : Order) (areas : Areas) (r : Outcome) (x y z : List ℕ)
    → m ≡ order_of q → m ≡ meant.Known o → Tells (told ticks b o q.cycle areas) r x y z → Tells (told_to b (order_of q) q.cycle areas) r x y z
known_tells b q m o areas r x y z em eo e = rw (sym em, eo) e

-- numbers that name none: the board is as it was
away : (n : ℕ) (b : Board) (x y z : List ℕ) → Valid b → Tells (turned n b (areas_of x y z)) (record { answer = answer.Refused n; board = b; written = nothing }) x y z
away n b x y z v = record { board = refl; number = refl; values = refl; written = refl; zero = refl; one = refl; two = refl; valid = v }

pub unknown-tells : (b : Board) (q : Ordered) (m : Meant) (r : Outcome) (x y z : List ℕ)
    → Valid b → m ≡ order_of q → m ≡ meant.Unknown → r ≡ record { answer = answer.Refused 255; board = b; written = nothing } → Tells (told_to b (order_of q) q.cycle (areas_of x y z)) r x y z
unknown-tells b q m r x y z v em eu er = rw (sym em, eu, er) (away 255 b x y z v)

-- the core's outcome, its answer in numbers
heard : (t : Told) (o : Outcome) (x y z : List ℕ) → Tells t o x y z → Obeys t (moved_of o).board (moved_of o).reply x y z
heard t o x y z e = record {
  board = e.board;
  reply = λ i. replied_of (e.number i) (e.values i) (e.written i) (e.board i);
  zero = e.zero;
  one = e.one;
  two = e.two;
  valid = e.valid;
}

pub obeys : (t : Told) (o : Outcome) (m : Moved) (x y z : List ℕ) → Tells t o x y z → m ≡ moved_of o → Obeys t m.board m.reply x y z
obeys t o m x y z e em = rw em (heard t o x y z e)
