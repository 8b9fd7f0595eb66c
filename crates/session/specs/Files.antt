-- A script and the file that records go to (docs/SCRIPT.md): what a line leaves once the file has answered: it took all, it "does not take a call's records", or it "cannot be opened".
use Rattle.std.specs.Prelude.{ℕ, Bool, cond, ◌||◌, List, [], ◌∷◌, ◌++◌, ltb, Result, Ok, Err, ⊤}
use Rattle.figures.specs.Figures.{text}
use Rattle.page.specs.Page.{unreadable_of}
use Rattle.bench_lines.specs.declared.desk.Bench.{Bench}
use Rattle.bench_lines.specs.Steps.{State, step_of}
use Rattle.bench_lines.specs.Claims.{left}
use Rattle.session.specs.declared.settles.Fault.{Fault}
use Rattle.session.specs.declared.settles.Fault.TheVariants as fault

-- ---- a line

-- does a line ask something of the file: that it is begun anew, or takes bytes
unfoldable pub asks_of : Bench → Bool
asks_of b = b.anew || ltb 0 b.kept

-- a bench at another line
abbrev pub at_line : Bench → ℕ → Bench
at_line b line =
    record { timer = b.timer; watchdog = b.watchdog; door = b.door; ring = b.ring; line = line; whose = b.whose; kept = b.kept; anew = b.anew }

-- by the state before the line, the one after it, and the file's answer: "`door.log not written` stands in place of that call's answer", or why it cannot be opened, "and then nothing has changed" but the line's number and the
-- bytes that the line was lent
unfoldable pub settled_of : State → State → Result ⊤ Fault → State
settled_of was s (Ok done) = s
settled_of was s (Err fault.NotWritten) = left s.bench s.shelf s.lent s.one s.two (was.answers ++ text "door.log not written\n")
settled_of was s (Err (fault.Unread why)) =
    left (at_line was.bench s.bench.line) was.shelf s.lent s.one s.two (was.answers ++ (unreadable_of s.bench.line why ++ 10 ∷ []))

-- a line, and the file's answer
abbrev pub filed_step : State → List ℕ → Result ⊤ Fault → State
filed_step s line answer = settled_of s (step_of s line) answer

-- ---- a script

-- what a script leaves, and what the file has still to answer to the lines that ask: once that is nothing it takes all
pub record Filed : Type 0 where
  pub state : State
  pub whys : List (Result ⊤ Fault)

abbrev pub filed : State → List (Result ⊤ Fault) → Filed
filed s whys = record { state = s; whys = whys }

abbrev pub answer_of : State → State → List (Result ⊤ Fault) → Filed
answer_of was s [] = filed s []
answer_of was s (why ∷ whys) = filed (settled_of was s why) whys

-- one line more
abbrev pub file_of : Filed → List ℕ → Filed
file_of f line = cond (asks_of (step_of f.state line).bench) (answer_of f.state (step_of f.state line) f.whys) (filed (step_of f.state line) f.whys)
