-- What a script leaves, line by line: the bench and the shelf, every byte that is lent, and the answers (docs/SCRIPT.md, "Answers, a line for each command").
use Rattle.std.specs.Prelude.{◌≡◌, ℕ, ◌+◌, ◌%◌, ◌^◌, false, cond, List, [], ◌∷◌, ◌++◌, length, take, ◌==◌, nat_lt, Option, Some, None, IfSome}
use Rattle.words.specs.Words.{skip_of, find_of}
use Rattle.words.specs.Numbers.{between}
use Rattle.words.specs.declared.Unreadable.TheVariants as unreadable
use Rattle.page.specs.Page.{unreadable_of}
use Rattle.linewise.specs.Lines.{Holds, end_of, cut_of}
use Rattle.linewise.specs.Claims.{reading, fed}
use Rattle.linewise.specs.Texts.{Text, going}
use Rattle.board.specs.Calls.{areas_of}
use Rattle.bench_lines.specs.declared.desk.Bench.{Bench}
use Rattle.bench_lines.specs.declared.desk.Shelf.{Shelf}
use Rattle.bench_lines.specs.declared.named.Later.{Later}
use Rattle.bench_lines.specs.declared.turns.Turned.{Turned}
use Rattle.bench_lines.specs.Lines.{telling}
use Rattle.bench_lines.specs.Named.{Lent, lent, leaving, Asking, asking, worded_of, Hears}
use Rattle.bench_lines.specs.Shelved.{Worked, shelved_of}

-- ---- a line

-- the bench at the next line: its number, which goes on from 2^64 - 1 to 0, and nothing for the file
abbrev pub counted : Bench → Bench
counted b =
    record { timer = b.timer; watchdog = b.watchdog; door = b.door; ring = b.ring; line = (b.line + 1) % 2 ^ 64; whose = b.whose; kept = 0; anew = false }

-- bytes said, and nothing asked of the shelf
abbrev pub saying : Bench → List ℕ → Lent → Asking
saying b bytes l = asking (leaving (telling b bytes) l) None

-- a line feed ends an answer, unless that is still to come
unfoldable pub ended_by : Asking → Option Later → Asking
ended_by x None = asking (leaving (telling x.lined.told.bench (x.lined.told.bytes ++ 10 ∷ [])) x.lined.lent) None
ended_by x (Some later) = x

abbrev pub ended_of : Asking → Asking
ended_of x = ended_by x x.later

-- a line without its comment: "empty lines are passed over"
unfoldable pub heard_of : Bench → List ℕ → Lent → Asking
heard_of b line l = cond (skip_of line 0 == length line) (saying b [] l) (ended_of (worded_of b line (skip_of line 0) l))

-- "`#` begins a comment"
abbrev pub plain : List ℕ → List ℕ
plain line = take (find_of line 0 35) line

-- a line of any length: "a line over 500 bytes, a comment too" is too long
unfoldable pub first_of : Bench → List ℕ → Lent → Asking
first_of b line l = cond (nat_lt 500 (length line)) (saying (counted b) (unreadable_of (counted b).line unreadable.TooLong ++ 10 ∷ []) l) (heard_of (counted b) (plain line) l)

-- ---- a script

-- all that a script works on, and its answers so far
pub record State : Type 0 where
  pub bench : Bench
  pub shelf : Shelf
  pub lent : Lent
  pub one : List ℕ
  pub two : List ℕ
  pub answers : List ℕ

-- after a line that asks nothing of the shelf
abbrev pub after : State → Asking → State
after s x = record { bench = x.lined.told.bench; shelf = s.shelf; lent = x.lined.lent; one = s.one; two = s.two; answers = s.answers ++ x.lined.told.bytes }

-- what was asked of the shelf, worked
abbrev pub shelving : State → Lent → Worked → State
shelving s l x = record { bench = x.bench; shelf = x.shelf; lent = lent x.areas.zero l.area l.items; one = x.areas.one; two = x.areas.two; answers = s.answers ++ x.bytes }

abbrev pub later : State → List ℕ → Asking → Later → State
later s line x q =
    shelving s x.lined.lent
    (shelved_of x.lined.told.bench s.shelf (areas_of x.lined.lent.room s.one s.two) (take q.end line) q.device q.at)

unfoldable pub then_by : State → List ℕ → Asking → Option Later → State
then_by s line x None = after s x
then_by s line x (Some q) = later s line x q

abbrev pub then_of : State → List ℕ → Asking → State
then_of s line x = then_by s line x x.later

-- one line more: the file that records go to takes all
unfoldable pub step_of : State → List ℕ → State
step_of s line = then_of s line (first_of s.bench line s.lent)

-- ---- the code

-- what is held of a line is its bytes so far
abbrev pub Held : List ℕ → List ℕ → Type 0
Held line bytes = Holds [] line bytes

-- what has come of a line up to its end, or the piece's
abbrev pub so_far : List ℕ → List ℕ → ℕ → List ℕ
so_far bytes input start = bytes ++ between input start (end_of input start)

-- a piece read from a place on is the script fed on to there: a line that ended is answered, but for what it asks of the shelf, and its bytes so far are held; `next_turn` then goes on with nothing of it, or with those of a line that did not end
pub record Turns (b : Bench) (l : Lent) (bytes input : List ℕ) (start : ℕ) (old new room area items : List ℕ) (line : Text) (r : Turned) : Type 0 where
  pub cut : (r.next ≡ (cut_of input start).at) × (r.ended ≡ (cut_of input start).ended)
  pub feeds : (s : State) → fed step_of (reading s bytes) (between input start r.next) ≡ cond r.ended (reading (step_of s (so_far bytes input start)) []) (reading s (so_far bytes input start))
  pub hears : Hears (cond r.ended (first_of b (so_far bytes input start) l) (saying b [] l)) old new room area items (record { bench = r.bench; later = r.later })
  pub held : Held line.bytes (so_far bytes input start)
  pub kept : Held (going line) (cond r.ended [] (so_far bytes input start))
  pub asked : IfSome r.later (λ q. take q.end line.bytes ≡ take q.end (so_far bytes input start))
