-- The answers of a list of register writes (docs/SCRIPT.md, "Lists of register writes"), and the timer that it leaves.
use Rattle.std.specs.Prelude.{ℕ, ◌%◌, cond, List, [], ◌++◌, ◌≡◌, ◌==◌, nat_lt, length, drop, Option, Some, None, IfSome, Result, Ok, Err, is_ok}
use Rattle.figures.specs.Figures.{text, number}
use Rattle.words.specs.Words.{exactly_of, and_then}
use Rattle.words.specs.Numbers.{next_of}
use Rattle.words.specs.declared.Unreadable.{Unreadable}
use Rattle.page.specs.Page.{Puts, unreadable_of}
use Rattle.passage.specs.Passage.{ticks}
use Rattle.counter.specs.Valid.{Valid}
use Rattle.counter.specs.declared.state.Timer.{Timer}
use Rattle.answers.specs.Answers.{answer_of}
use Rattle.display.specs.Answers.{records_of}
use Rattle.digits.specs.Spelling.{bytes_of}
use Rattle.room.specs.Room.{filled, changed_at}
use Rattle.writes.specs.declared.Why.{Why}
use Rattle.writes.specs.declared.Why.TheVariants as why
use Rattle.writes.specs.Writes.{Listed, listing, why_of}
use Rattle.list_lines.specs.declared.worked.Asked.{Asked}
use Rattle.list_lines.specs.declared.worked.Left.{Left}

-- what a list's line leaves: the timer, if there is one, the bytes of the list of lines, the area, how many of its bytes are records, and the answer's bytes
pub record Lined : Type 0 where
  pub timer : Option Timer
  pub items : List ℕ
  pub area : List ℕ
  pub written : ℕ
  pub bytes : List ℕ

-- a line that changes nothing
abbrev pub saying : Option Timer → List ℕ → List ℕ → List ℕ → Lined
saying t items area bytes = record { timer = t; items = items; area = area; written = 0; bytes = bytes }

-- "why=all", "why=paused cycle=N", "why=refused number=N"
unfoldable pub reason_of : Why → List ℕ
reason_of why.AllDone = text " why=all"
reason_of (why.Paused cycle f) = text " why=paused cycle=" ++ number cycle.0
reason_of (why.Refused n) = text " why=refused number=" ++ number n

-- "ok done=K why=.. bytes=B records=HEX"
unfoldable pub ended_of : ℕ → Why → List ℕ → ℕ → List ℕ
ended_of done w area written = text "ok done=" ++ number done ++ reason_of w ++ records_of area written

-- why a list ended, as `writes` tells it
abbrev pub reason_in : Listed → Why
reason_in x = why_of (answer_of x.told.number x.told.values)

-- the timer and the area that a list leaves, the list of lines, and so many records
abbrev pub leaving : List ℕ → Listed → ℕ → List ℕ → Lined
leaving items x written bytes = record { timer = Some x.told.timer; items = items; area = x.told.area; written = written; bytes = bytes }

-- "`area changed at I` in place of the answer" where the rest of the area does not hold A5, and then none of its bytes is a record
unfoldable pub told_of : List ℕ → Listed → Lined
told_of items x =
    let end = changed_at x.told.area x.told.written in
    cond (nat_lt end (length x.told.area)) (leaving items x 0 (text "area changed at " ++ number end))
    (leaving items x x.told.written (ended_of x.done (reason_in x) x.told.area x.told.written))

-- a list worked on an area of so many bytes, by `writes`' own definition
abbrev pub worked_of : Timer → List ℕ → List ℕ → ℕ → Lined
worked_of t items list size = told_of items (listing ticks t list (filled size))

-- a line's answer with what lies behind the area that its list had
abbrev pub behind : Lined → List ℕ → Lined
behind x rest = record { timer = x.timer; items = x.items; area = x.area ++ rest; written = x.written; bytes = x.bytes }

-- a list that leaves a list of lines; "no timer", and then that is what it was
unfoldable pub on_timer : Option Timer → List ℕ → List ℕ → List ℕ → ℕ → List ℕ → Lined
on_timer (Some t) items left list size area = behind (worked_of t left list size) (drop size area)
on_timer None items left list size area = saying None items area (text "no timer")

-- a list of bytes, the list of lines stays: "12 when the list length is not a multiple of ten, tested before all others and changing nothing" (02, 2.1)
unfoldable pub of_bytes : Option Timer → List ℕ → List ℕ → ℕ → List ℕ → Lined
of_bytes t items list size area = cond (length list % 10 == 0) (on_timer t items items list size area) (saying t items area (text "refused 12"))

-- the list that the line itself has, or that of lines, "worked and emptied by the next `writes AREA`"; it "stays where there is no timer to work it"
unfoldable pub of_list : Option Timer → List ℕ → Option (List ℕ) → ℕ → List ℕ → Lined
of_list t items (Some list) size area = of_bytes t items list size area
of_list t items None size area = on_timer t items [] items size area

-- `writes AREA HEX`: of HEX a line holds 250 bytes at most
unfoldable pub word_of : List ℕ → ℕ → Result Asked Unreadable
word_of line at =
    and_then (exactly_of line at 2) (λ _.
    and_then (next_of line at 10 4096) (λ size.
    and_then (bytes_of line size.end 250) (λ list. Ok (record { list = Some list; size = size.value }))))

-- or `writes AREA`, from the place after its name
unfoldable pub asked_of : List ℕ → ℕ → Result Asked Unreadable
asked_of line at = cond (is_ok (exactly_of line at 1)) (and_then (next_of line at 10 4096) (λ size. Ok (record { list = None; size = size.value }))) (word_of line at)

-- a line that was read
unfoldable pub heard_of : Option Timer → ℕ → List ℕ → Result Asked Unreadable → List ℕ → Lined
heard_of t nth items (Ok q) area = of_list t items q.list q.size area
heard_of t nth items (Err why) area = saying t items area (unreadable_of nth why)

-- the line
abbrev pub writes_line : Option Timer → ℕ → List ℕ → ℕ → List ℕ → List ℕ → Lined
writes_line t nth line at items area = heard_of t nth items (asked_of line at) area

-- what the code leaves is what the line's definition says; its timer is valid
pub record Leaves (x : Lined) (old new after list : List ℕ) (r : Left) : Type 0 where
  pub timer : r.timer ≡ x.timer
  pub items : list ≡ x.items
  pub area : after ≡ x.area
  pub written : r.written ≡ x.written
  pub puts : Puts old new x.bytes
  pub valid : IfSome r.timer Valid
