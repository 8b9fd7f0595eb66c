-- What is proved of the board's lines beside the functions.
use Rattle.std.specs.Prelude.{ℕ, ◌+◌, ◌*◌, ◌≤◌, List, length, Option, IfOk}
use Rattle.board.specs.Calls.{Areas}
use Rattle.board.specs.declared.state.Board.{Board}
use Rattle.board_lines.specs.declared.asked.Asked.{Asked}
use Rattle.board_lines.specs.Asked.{asked_of, size_of}
use Rattle.board_lines.specs.Ordered.{order_line}

-- Sized: no line asks for more than 4,096 bytes of an area
abbrev pub Sized : Type 0
Sized = (line : List ℕ) (at : ℕ) → IfOk (asked_of line at) (λ q. size_of q ≤ 4096)

-- Short: an order's answer has at most so many bytes: three areas in hexadecimal, and 200 more
abbrev pub Short : Type 0
Short = (b : Option Board) (q : Asked) (areas : Areas) → size_of q ≤ 4096 → length (order_line b q areas).bytes ≤ 200 + 6 * 4096
