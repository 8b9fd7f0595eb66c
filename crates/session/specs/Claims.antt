-- What is proved of a script in a session beside the functions.
use Rattle.std.specs.Prelude.{ℕ, ◌+◌, ◌≤◌, List, [], ◌++◌, ◌≡◌, length, Result, Ok, ⊤}
use Rattle.linewise.specs.Claims.{reading, fed}
use Rattle.bench_lines.specs.declared.desk.Bench.{Bench}
use Rattle.bench_lines.specs.declared.desk.Shelf.{Shelf}
use Rattle.bench_lines.specs.Named.{Lent}
use Rattle.bench_lines.specs.Steps.{State, step_of}
use Rattle.bench_lines.specs.Claims.{longest, left}
use Rattle.session.specs.declared.settles.Fault.{Fault}
use Rattle.session.specs.Files.{filed_step, filed, file_of}
use Rattle.session.specs.Runs.{Carries}

-- a file that takes all is the step itself
abbrev pub TakesLine : Type 0
TakesLine = (s : State) (line : List ℕ) → filed_step s line (Ok tt) ≡ step_of s line

-- and with a file that takes all a script leaves what it leaves by its steps
abbrev pub TakesAll : Type 0
TakesAll = (s : State) (bytes piece : List ℕ)
    → let x = fed file_of (reading (filed s []) bytes) piece in
    reading x.left.state x.line ≡ fed step_of (reading s bytes) piece

-- a piece, and one after it from what the first left: both together, so where a script is cut changes nothing
abbrev pub PieceAfterPiece : Type 0
PieceAfterPiece = (s : State) (bytes first second : List ℕ) (b b' : Bench) (shelf shelf' : Shelf) (l l' : Lent) (one two line one' two' line' : List ℕ)
    → (x : Carries s bytes first b shelf l one two line) → Carries (left b shelf l one two x.answers) x.rest second b' shelf' l' one' two' line'
    → Carries s bytes (first ++ second) b' shelf' l' one' two' line'

-- whatever the file answers, the answer of the line is not longer than the longest
abbrev pub FiledLongest : Type 0
FiledLongest = (s : State) (line : List ℕ) (answer : Result ⊤ Fault) → length (filed_step s line answer).answers ≤ length s.answers + longest
