-- The lines on the scheduler and on the board (docs/SCRIPT.md, "Pins and the scheduler", "The board").
use Rattle.std.specs.Prelude.{◌≡◌, ℕ, Bool, true, false, ◌&&◌, List, [], ◌∷◌, ◌++◌, Result, Ok, Err}
use Rattle.words.specs.declared.Unreadable.{Unreadable}
use Rattle.page.specs.Page.{Puts, unreadable_of}
use Rattle.sched_lines.specs.Sched.{sched_of}
use Rattle.scheduler.specs.declared.Scheduler.{Scheduler}
use Rattle.board.specs.Calls.{Areas, areas_of}
use Rattle.board.specs.declared.outcome.Written.{Written}
use Rattle.board_lines.specs.Asked.{asked_of}
use Rattle.board_lines.specs.Ordered.{Lined, order_line}
use Rattle.board_lines.specs.declared.asked.Asked.{Asked}
use Rattle.bench_lines.specs.declared.desk.Bench.{Bench}
use Rattle.bench_lines.specs.declared.desk.Desk.{Desk}
use Rattle.bench_lines.specs.declared.desk.Shelf.{Shelf}
use Rattle.bench_lines.specs.declared.desk.Whose.{Whose}
use Rattle.bench_lines.specs.declared.desk.Whose.TheVariants as whose
use Rattle.bench_lines.specs.declared.named.Device.{Device}
use Rattle.bench_lines.specs.declared.named.Device.TheVariants as device
use Rattle.bench_lines.specs.Desk.{Sound, Stable}

-- what a line leaves: the bench, the shelf, the answer's bytes, and the three areas
pub record Worked : Type 0 where
  pub bench : Bench
  pub shelf : Shelf
  pub bytes : List ℕ
  pub areas : Areas

abbrev pub working : Bench → Shelf → Areas → List ℕ → Worked
working b s areas bytes = record { bench = b; shelf = s; bytes = bytes; areas = areas }

-- a scheduler's line
abbrev pub scheduled_of : Bench → Shelf → Areas → Scheduler × List ℕ → Worked
scheduled_of b s areas x = working b (record { scheduler = x.0; board = s.board }) areas x.1

-- "or with T of the board's timer T alone": how many bytes the file takes of the three timers' records
unfoldable pub board_kept : Whose → Written → ℕ
board_kept whose.Zero w = w.zero
board_kept whose.One w = w.one
board_kept whose.Two w = w.two
board_kept whose.Script w = 0
board_kept whose.Nobody w = 0

-- does the file take the records of one of the board's timers
unfoldable pub on_board : Whose → Bool
on_board whose.Zero = true
on_board whose.One = true
on_board whose.Two = true
on_board whose.Script = false
on_board whose.Nobody = false

-- the bench with so many bytes for the file, and whether that is begun anew
abbrev pub filed : Bench → ℕ → Bool → Bench
filed b kept anew =
    record { timer = b.timer; watchdog = b.watchdog; door = b.door; ring = b.ring; line = b.line; whose = b.whose; kept = kept; anew = anew }

-- after a board's line: "with T at every `board new`" the file is begun anew
abbrev pub filed_of : Bench → Lined → Bench
filed_of b x = filed b (board_kept b.whose x.written) (x.fresh && on_board b.whose)

-- the board that an order leaves
abbrev pub taken_of : Bench → Shelf → Lined → Worked
taken_of b s x = working (filed_of b x) (record { scheduler = s.scheduler; board = x.board }) x.areas x.bytes

-- a board's line
unfoldable pub ordered_of : Bench → Shelf → Areas → Result Asked Unreadable → Worked
ordered_of b s areas (Ok q) = taken_of b s (order_line s.board q areas)
ordered_of b s areas (Err why) = working b s areas (unreadable_of b.line why)

-- of which device, from the place after its name
unfoldable pub answered_of : Bench → Shelf → Areas → List ℕ → Device → ℕ → Worked
answered_of b s areas line device.Scheduler at = scheduled_of b s areas (sched_of s.scheduler b.line line at)
answered_of b s areas line device.Board at = ordered_of b s areas (asked_of line at)

-- with the line feed that ends the answer
abbrev pub shelved_of : Bench → Shelf → Areas → List ℕ → Device → ℕ → Worked
shelved_of b s areas line d at =
    let x = answered_of b s areas line d at in
    working x.bench x.shelf x.areas (x.bytes ++ 10 ∷ [])

-- what the code leaves is what the line's definition says, every byte of the three areas too, sound and stable
pub record Works (x : Worked) (old new room one two : List ℕ) (r : Desk) : Type 0 where
  pub bench : r.bench ≡ x.bench
  pub shelf : r.shelf ≡ x.shelf
  pub puts : Puts old new x.bytes
  pub areas : areas_of room one two ≡ x.areas
  pub sound : Sound r.bench
  pub stable : Stable r.shelf
