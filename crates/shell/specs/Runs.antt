-- Orders through the export on a lent board, one after the other (02, 2.6; 01, "The record area": demand 3).
use Rattle.std.specs.Prelude.{List, [], ◌∷◌, ◌≡◌}
use Rattle.aims.specs.declared.Order.{Order}
use Rattle.board.specs.declared.state.Board.{Board}
use Rattle.board.specs.State.{fresh_board}
use Rattle.board.specs.Calls.{Areas, Told}
use Rattle.board_claims.specs.Claims.{Request, Heard}
use Rattle.orders.specs.declared.Ordered.{Ordered}
use Rattle.orders.specs.declared.Replied.{Replied}
use Rattle.orders.specs.declared.Meant.TheVariants as meant
use Rattle.shell.specs.Histories.{values_in}
use Rattle.orders.specs.Orders.{order_of, told_to, Obeys}

-- what a reply says beside the board that the order left
abbrev pub replied : Board → Replied → Areas → Told
replied b r after = record {
  board = b;
  number = r.number;
  values = values_in r.what r.flags r.value;
  written = record { zero = r.zero.written; one = r.one.written; two = r.two.written };
  areas = after;
}

-- the request of an exported order
abbrev pub asking : Ordered → Order → Areas → Request
asking a o areas = record { order = o; cycle = a.cycle; areas = areas }

-- a history of the export, each order on the board as the one before left it, each with its promise; numbers that name no order are no order of the run
pub data History : Board → List Request → List Told → Board → Type 0 where
  nothing : (b : Board) → History b [] [] b
  ordered : (b : Board) (a : Ordered) (o : Order) (areas : Areas) (c : Board) (r : Replied) (after : Areas) (qs : List Request) (xs : List Told) (u : Board) → order_of a ≡ meant.Known o
      → Obeys (told_to b (order_of a) a.cycle areas) c r after.zero after.one after.two → History c qs xs u → History b (asking a o areas ∷ qs) (replied c r after ∷ xs) u
  unnamed : (b : Board) (a : Ordered) (areas : Areas) (c : Board) (r : Replied) (after : Areas) (qs : List Request) (xs : List Told) (u : Board) → order_of a ≡ meant.Unknown
      → Obeys (told_to b (order_of a) a.cycle areas) c r after.zero after.one after.two → History c qs xs u → History b qs xs u

-- The export is that run: what a history of it gave from a fresh board is what the board whose timers skip gives, outcome by outcome
abbrev pub ExportIsRun : Type 0
ExportIsRun = (qs : List Request) (xs : List Told) (u : Board) → History fresh_board qs xs u → Heard qs xs u
