-- Lines one after the other: a script fed on by a piece, until the page has no room for the longest answer, or a line asks something of the file.
use Rattle.std.specs.Prelude.{ℕ, ◌+◌, Bool, true, List, [], ◌∷◌, ◌++◌, ◌≡◌, leb, length, take, Result, Option, Some, None, ⊤}
use Rattle.words.specs.Numbers.{between}
use Rattle.page.specs.Page.{size}
use Rattle.board.specs.Calls.{areas_of}
use Rattle.linewise.specs.Claims.{reading, fed}
use Rattle.bench_lines.specs.declared.desk.Bench.{Bench}
use Rattle.bench_lines.specs.declared.desk.Desk.{Desk}
use Rattle.bench_lines.specs.declared.desk.Shelf.{Shelf}
use Rattle.bench_lines.specs.declared.named.Later.{Later}
use Rattle.bench_lines.specs.Named.{Lent}
use Rattle.bench_lines.specs.Shelved.{shelved_of, Works}
use Rattle.bench_lines.specs.Steps.{State, step_of, Held}
use Rattle.bench_lines.specs.Claims.{longest, left}
use Rattle.session.specs.declared.runs.Asked.{Asked}
use Rattle.session.specs.declared.runs.Went.{Went}
use Rattle.session.specs.declared.settles.Fault.{Fault}
use Rattle.session.specs.Files.{filed_step, filed, file_of}

-- ---- the page

-- has a page room for the longest answer
abbrev pub roomy_of : List ℕ → Bool
roomy_of page = leb (length page + longest) size

-- what the code left is a state: its answers are those of an earlier one and the bytes that the page shows behind what stood there, none of which is cut off
pub record Leaves (was next : State) (old : List ℕ) (d : Desk) (l : Lent) (one two new : List ℕ) : Type 0 where
  pub said : List ℕ
  pub state : left d.bench d.shelf l one two (was.answers ++ said) ≡ next
  pub shows : new ≡ old ++ said

-- ---- what a line asks of the shelf

-- nothing, and all is as it was, or what the shelf's line leaves
abbrev pub Rests : Option Later → Desk → List ℕ → List ℕ → List ℕ → List ℕ → List ℕ → List ℕ → List ℕ → List ℕ → List ℕ → Desk → Type 0
Rests None d line old new room one two room' one' two' r = (r ≡ d) × (new ≡ old) × (room' ≡ room) × (one' ≡ one) × (two' ≡ two)
Rests (Some q) d line old new room one two room' one' two' r = Works (shelved_of d.bench d.shelf (areas_of room one two) (take q.end line) q.device q.at) old new room' one' two' r

-- ---- a piece

-- it was read: the script is fed on by it, none of its lines asks something of the file, and what is left of it is held
pub record Reads (s : State) (bytes piece old : List ℕ) (d : Desk) (l : Lent) (one two line new : List ℕ) : Type 0 where
  pub next : State
  pub rest : List ℕ
  pub feeds : (whys : List (Result ⊤ Fault)) → fed file_of (reading (filed s whys) bytes) piece ≡ reading (filed next whys) rest
  pub held : Held line rest
  pub leaves : Leaves s next old d l one two new

-- it was read, and its last line is the one that asks: the state and the page before that line, and what the line leaves; the script is what the file's answer makes of them
pub record Asks (s : State) (bytes piece old : List ℕ) (a : Asked) (d : Desk) (l : Lent) (one two line new : List ℕ) : Type 0 where
  pub was : State
  pub text : List ℕ
  pub page : List ℕ
  pub feeds : (why : Result ⊤ Fault) (whys : List (Result ⊤ Fault)) → fed file_of (reading (filed s (why ∷ whys)) bytes) piece ≡ reading (filed (filed_step was text why) whys) []
  pub held : Held line []
  pub from : a.from ≡ length page
  pub roomy : roomy_of page ≡ true
  pub before : Leaves s was old a.before was.lent was.one was.two page
  pub after : Leaves was (step_of was text) page d l one two new

-- one or the other
abbrev pub WentBy : Option Asked → State → List ℕ → List ℕ → List ℕ → Desk → Lent → List ℕ → List ℕ → List ℕ → List ℕ → Type 0
WentBy None s bytes piece old r l one two line new = Reads s bytes piece old r l one two line new
WentBy (Some a) s bytes piece old r l one two line new = Asks s bytes piece old a r l one two line new

-- from a place of a piece on
abbrev pub Goes : State → List ℕ → List ℕ → ℕ → List ℕ → Went → Lent → List ℕ → List ℕ → List ℕ → List ℕ → Type 0
Goes s bytes input start old w l one two line new = WentBy w.asked s bytes (between input start w.next) old w.desk l one two line new

-- ---- piece after piece

-- some of a piece, with what the file answered meanwhile: the script is fed on by it
pub record Carries (s : State) (bytes piece : List ℕ) (b : Bench) (shelf : Shelf) (l : Lent) (one two line : List ℕ) : Type 0 where
  pub whys : List (Result ⊤ Fault)
  pub answers : List ℕ
  pub rest : List ℕ
  pub feeds : (more : List (Result ⊤ Fault)) → fed file_of (reading (filed s (whys ++ more)) bytes) piece ≡ reading (filed (left b shelf l one two answers) more) rest
  pub held : Held line rest
