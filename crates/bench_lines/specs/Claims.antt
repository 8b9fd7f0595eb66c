-- What is proved of a script's lines beside the functions.
use Rattle.std.specs.Prelude.{◌≡◌, ℕ, ◌+◌, ◌≤◌, true, List, ◌++◌, length, take, Some, None}
use Rattle.page.specs.Page.{size, Puts}
use Rattle.linewise.specs.Texts.{Text}
use Rattle.board.specs.Calls.{areas_of}
use Rattle.bench_lines.specs.declared.desk.Bench.{Bench}
use Rattle.bench_lines.specs.declared.desk.Desk.{Desk}
use Rattle.bench_lines.specs.declared.desk.Shelf.{Shelf}
use Rattle.bench_lines.specs.declared.named.Later.{Later}
use Rattle.bench_lines.specs.declared.turns.Turned.{Turned}
use Rattle.bench_lines.specs.Named.{Lent, lent}
use Rattle.bench_lines.specs.Shelved.{shelved_of, Works}
use Rattle.bench_lines.specs.Steps.{State, step_of, so_far, Turns}

-- ---- how long an answer is

-- the bytes of the longest answer: an order's to the board with three areas of 4,096 bytes, and its line feed
abbrev pub longest : ℕ
longest = 24777

-- no line adds more to the answers, whatever the state and the line, and a page has room for as many
abbrev pub Longest : Type 0
Longest = ((s : State) (line : List ℕ) → length (step_of s line).answers ≤ length s.answers + longest) × (longest ≤ size)

-- ---- the code is the script's step

-- all that the code left, with the answers so far
abbrev pub left : Bench → Shelf → Lent → List ℕ → List ℕ → List ℕ → State
left b shelf l one two answers = record { bench = b; shelf = shelf; lent = l; one = one; two = two; answers = answers }

-- it is the state after a line, and the page took the bytes that the line adds to the answers
pub record Stepped (s : State) (line old new : List ℕ) (b : Bench) (shelf : Shelf) (l : Lent) (one two : List ℕ) : Type 0 where
  pub bytes : List ℕ
  pub puts : Puts old new bytes
  pub step : left b shelf l one two (s.answers ++ bytes) ≡ step_of s line

-- `next_turn`, or `turn`, of a line that ended and asks nothing of the shelf
abbrev pub TurnIsStep : Type 0
TurnIsStep = (s : State) (bytes input : List ℕ) (start : ℕ) (old new room area items : List ℕ) (line : Text) (r : Turned)
    → Turns s.bench s.lent bytes input start old new room area items line r → r.ended ≡ true → r.later ≡ None
    → Stepped s (so_far bytes input start) old new r.bench s.shelf (lent room area items) s.one s.two

-- and then `shelved`, of one that does, with the page as they leave it
abbrev pub ShelvedIsStep : Type 0
ShelvedIsStep = (s : State) (bytes input : List ℕ) (start : ℕ) (old new room area items : List ℕ) (line : Text) (r : Turned) (q : Later)
    → Turns s.bench s.lent bytes input start old new room area items line r → r.later ≡ Some q
    → (last room' one two : List ℕ) (x : Desk)
    → Works (shelved_of r.bench s.shelf (areas_of room s.one s.two) (take q.end line.bytes) q.device q.at) new last room' one two x
    → Stepped s (so_far bytes input start) old last x.bench x.shelf (lent room' area items) one two

abbrev pub CodeIsStep : Type 0
CodeIsStep = TurnIsStep × ShelvedIsStep
