-- An order to the board and its answer in numbers (02, 2.6).
use Rattle.std.specs.Prelude.{ℕ, zero, suc, List, [], ◌∷◌, ◌≡◌}
use Rattle.counter.specs.declared.state.Timer.{Timer}
use Rattle.counter.specs.Next.{next_of}
use Rattle.passage.specs.Passage.{ticks}
use Rattle.counter.specs.declared.next.Next.TheVariants as next
use Rattle.answers.specs.Answers.{Values, refused, none, byte, event, reached, paused, number_of, values_of}
use Rattle.m328p.specs.declared.Id.{Id}
use Rattle.m328p.specs.declared.Id.TheVariants as id
use Rattle.aims.specs.declared.Order.{Order}
use Rattle.aims.specs.declared.Order.TheVariants as order
use Rattle.board.specs.declared.state.Board.{Board}
use Rattle.board.specs.declared.outcome.Outcome.{Outcome}
use Rattle.board.specs.declared.outcome.Written.{Written}
use Rattle.board.specs.State.{Valid}
use Rattle.board.specs.Calls.{Areas, Told, told, turned}
use Rattle.orders.specs.declared.Ordered.{Ordered}
use Rattle.orders.specs.declared.Standing.{Standing}
use Rattle.orders.specs.declared.Replied.{Replied}
use Rattle.orders.specs.declared.Moved.{Moved}
use Rattle.orders.specs.declared.Meant.{Meant}
use Rattle.orders.specs.declared.Meant.TheVariants as meant
use Rattle.held.specs.Held.{code_of, flags_in}
use Rattle.held.specs.Reply.{what_of, value_of, beside}

-- ---- orders

-- the orders in the order of their numbers, with the arguments that each takes
abbrev pub orders : Id → Ordered → List Order
orders i q =
    order.Advance i ∷ order.Next i ∷ order.Reset i ∷ order.Edge i q.pin q.value ∷ order.Route i q.value ∷ order.Output i q.value ∷ order.Read q.address ∷ order.Peek q.address
    ∷ order.Write q.address q.value ∷ order.Sleep q.value ∷ order.Wake ∷ order.Reduce q.value ∷ order.Tifr i ∷ order.Timsk i ∷ order.WriteTifr i q.value ∷ order.WriteTimsk i q.value ∷ []

-- the order at a place of a list
abbrev pub meant_at : List Order → ℕ → Meant
meant_at [] n = meant.Unknown
meant_at (o ∷ os) zero = meant.Known o
meant_at (o ∷ os) (suc n) = meant_at os n

-- by the timer's id, 0 to 2
abbrev pub meant_by : ℕ → Ordered → Meant
meant_by zero q = meant_at (orders id.Zero q) q.kind
meant_by (suc zero) q = meant_at (orders id.One q) q.kind
meant_by (suc (suc zero)) q = meant_at (orders id.Two q) q.kind
meant_by (suc (suc (suc n))) q = meant.Unknown

abbrev pub order_of : Ordered → Meant
order_of q = meant_by q.id q

-- ---- answers

-- the flags of an answer, 0 where it has none
abbrev pub flags_of : Values → ℕ
flags_of refused = 0
flags_of none = 0
flags_of (byte v) = 0
flags_of (event (next.At c f)) = f
flags_of (event next.Never) = 0
flags_of (reached f) = f
flags_of (paused c f) = f

-- a timer's next event, where the order is accepted, and the bytes written in its area
abbrev pub standing_of : Values → Timer → ℕ → Standing
standing_of v t written = record { flags = beside v (flags_in (next_of t)); written = written; next = beside v (code_of (next_of t)) }

-- an answer in numbers, and of each timer of the board after it the next event
abbrev pub replied_of : ℕ → Values → Written → Board → Replied
replied_of number values written b = record {
  number = number;
  what = what_of values;
  flags = flags_of values;
  value = value_of values;
  zero = standing_of values b.zero written.zero;
  one = standing_of values b.one written.one;
  two = standing_of values b.two written.two;
}

-- the code's outcome, its answer in numbers
abbrev pub moved_of : Outcome → Moved
moved_of o = record { board = o.board; reply = replied_of (number_of o.answer) (values_of o.answer) o.written o.board }

-- ---- what an order promises

-- the order that the numbers name; numbers that name none are turned away with 255
abbrev pub told_to : Board → Meant → ℕ → Areas → Told
told_to b (meant.Known o) cycle areas = told ticks b o cycle areas
told_to b meant.Unknown cycle areas = turned 255 b areas

-- the board after an order, the reply, and every byte of the three areas
pub record Obeys (x : Told) (b : Board) (r : Replied) (first second third : List ℕ) : Type 0 where
  pub board : b ≡ x.board
  pub reply : r ≡ replied_of x.number x.values x.written x.board
  pub zero : first ≡ x.areas.zero
  pub one : second ≡ x.areas.one
  pub two : third ≡ x.areas.two
  pub valid : Valid b
