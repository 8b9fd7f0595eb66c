-- The answer of an order's line (docs/SCRIPT.md, "The board"), the board that it leaves, and the three areas.
use Rattle.std.specs.Prelude.{ℕ, Bool, true, false, cond, ◌||◌, List, ◌++◌, ◌≡◌, length, drop, Option, Some, None, IfSome, nat_lt}
use Rattle.figures.specs.Figures.{text}
use Rattle.page.specs.Page.{Puts}
use Rattle.room.specs.Room.{filled, changed_at}
use Rattle.passage.specs.Passage.{ticks}
use Rattle.answers.specs.Answers.{answer_of}
use Rattle.aims.specs.declared.Order.{Order}
use Rattle.board.specs.State.{Valid, fresh_board}
use Rattle.board.specs.Calls.{Areas, areas_of, nothing, Told, told}
use Rattle.board.specs.declared.state.Board.{Board}
use Rattle.board.specs.declared.outcome.Outcome.{Outcome}
use Rattle.board.specs.declared.outcome.Written.{Written}
use Rattle.board_lines.specs.declared.asked.Asked.{Asked}
use Rattle.board_lines.specs.declared.asked.Asked.TheVariants as asked
use Rattle.board_lines.specs.declared.ordered.Left.{Left}
use Rattle.board_lines.specs.Shown.{answer_of as shownOf, board_of}

-- what a line leaves: the board, the answer's bytes, the areas, how many bytes of each are records, and whether the board is a fresh one
pub record Lined : Type 0 where
  pub board : Option Board
  pub bytes : List ℕ
  pub areas : Areas
  pub written : Written
  pub fresh : Bool

-- a line that changes nothing
abbrev pub saying : Option Board → Areas → List ℕ → Lined
saying b areas bytes = record { board = b; bytes = bytes; areas = areas; written = nothing; fresh = false }

-- "`board new` makes it, fresh and at cycle 0, and answers `ok config`"
abbrev pub fresh_of : Areas → Lined
fresh_of areas = record { board = Some fresh_board; bytes = text "ok config"; areas = areas; written = nothing; fresh = true }

-- an area does not hold A5 behind what was written
abbrev pub spoilt : List ℕ → ℕ → Bool
spoilt area written = nat_lt (changed_at area written) (length area)

-- of the three one does not
unfoldable pub spoilt_of : Areas → Written → Bool
spoilt_of areas w = spoilt areas.zero w.zero || spoilt areas.one w.one || spoilt areas.two w.two

-- the board that an order leaves, and an answer with so many records
abbrev pub leaving : Outcome → Areas → Written → List ℕ → Lined
leaving o areas written bytes = record { board = Some o.board; bytes = bytes; areas = areas; written = written; fresh = false }

-- "If an area does not hold `A5` behind what was written the program says `area changed`"
unfoldable pub told_of : Outcome → Areas → Lined
told_of o areas = cond (spoilt_of areas o.written) (leaving o areas nothing (text "area changed")) (leaving o areas o.written (shownOf o areas))

-- the outcome of an order as the board tells it
abbrev pub outcome_of : Told → Outcome
outcome_of x = record { answer = answer_of x.number x.values; board = x.board; written = x.written }

-- the order on three areas
abbrev pub called_of : Board → Order → ℕ → Areas → Lined
called_of b order cycle areas = let x = told ticks b order cycle areas in told_of (outcome_of x) x.areas

-- three filled areas
abbrev pub filled_to : ℕ → ℕ → ℕ → Areas
filled_to a b c = areas_of (filled a) (filled b) (filled c)

-- a line's answer with what lies behind the first bytes of each area, which its order had
abbrev pub behind : Lined → ℕ → Areas → Lined
behind x size areas = record {
  board = x.board;
  bytes = x.bytes;
  areas = areas_of (x.areas.zero ++ drop size areas.zero) (x.areas.one ++ drop size areas.one) (x.areas.two ++ drop size areas.two);
  written = x.written;
  fresh = x.fresh;
}

-- before `new` "the other lines answer `no timer`"; "AREA is the size of each of three areas, one for each timer"
unfoldable pub order_line : Option Board → Asked → Areas → Lined
order_line b asked.New areas = fresh_of areas
order_line None q areas = saying None areas (text "no timer")
order_line (Some b) asked.State areas = saying (Some b) areas (board_of b)
order_line (Some b) (asked.Call order cycle size) areas = behind (called_of b order cycle (filled_to size size size)) size areas

-- what the code leaves is what the line's definition says, every byte of the three areas too; its board is valid
pub record Leaves (x : Lined) (old new a b c : List ℕ) (r : Left) : Type 0 where
  pub board : r.board ≡ x.board
  pub written : r.written ≡ x.written
  pub fresh : r.fresh ≡ x.fresh
  pub zero : a ≡ x.areas.zero
  pub one : b ≡ x.areas.one
  pub two : c ≡ x.areas.two
  pub puts : Puts old new x.bytes
  pub valid : IfSome r.board Valid
