-- The answers of a watchdog's lines (docs/SCRIPT.md, "The watchdog"), and the watchdog that they leave.
use Rattle.std.specs.Prelude.{ℕ, cond, List, ◌++◌, ◌≡◌, ltb, length, drop, Option, Some, None, Result, Ok, Err, IfSome}
use Rattle.figures.specs.Figures.{text, number}
use Rattle.words.specs.declared.Unreadable.{Unreadable}
use Rattle.page.specs.Page.{Puts, unreadable_of}
use Rattle.room.specs.Room.{filled, changed_at}
use Rattle.oscillator.specs.Oscillator.{ticks}
use Rattle.oscillator.specs.State.{fresh, Valid}
use Rattle.oscillator.specs.declared.state.Watchdog.{Watchdog}
use Rattle.watchdog.specs.Outcome.{Told}
use Rattle.watchdog.specs.Calls.{answered}
use Rattle.watchdog.specs.declared.calls.Call.{Call}
use Rattle.wdt_lines.specs.declared.asked.Asked.{Asked}
use Rattle.wdt_lines.specs.declared.asked.Asked.TheVariants as asked
use Rattle.wdt_lines.specs.Asked.{line_of}
use Rattle.wdt_lines.specs.Shown.{answer_of, state_of}

-- what a line leaves: the watchdog, if there is one, the answer's bytes, and the area
pub record Lined : Type 0 where
  pub watchdog : Option Watchdog
  pub bytes : List ℕ
  pub area : List ℕ

-- a line that changes nothing
abbrev pub saying : Option Watchdog → List ℕ → List ℕ → Lined
saying w area bytes = record { watchdog = w; bytes = bytes; area = area }

-- "`area changed at I` in place of the answer" where the rest of the area does not hold A5
unfoldable pub told_of : Told → List ℕ
told_of x = cond (ltb (changed_at x.area x.written) (length x.area)) (text "area changed at " ++ number (changed_at x.area x.written)) (answer_of x)

-- the watchdog that a call leaves, and its answer
abbrev pub left_by : Told → Lined
left_by x = record { watchdog = Some x.watchdog; bytes = told_of x; area = x.area }

-- the call answered, on an area of so many bytes
abbrev pub called_of : Watchdog → Call → ℕ → ℕ → Lined
called_of w call cycle size = left_by (answered ticks w call cycle (filled size))

-- a line's answer with what lies behind the area that its call had
abbrev pub behind : Lined → List ℕ → Lined
behind x rest = record { watchdog = x.watchdog; bytes = x.bytes; area = x.area ++ rest }

-- what a line asks for: "`wdt new` makes it, all bits clear and at cycle 0, and answers `ok config`"; before that "the other lines answer `no timer`"
unfoldable pub heard_of : Option Watchdog → Asked → List ℕ → Lined
heard_of w asked.New area = saying (Some fresh) area (text "ok config")
heard_of None asked.State area = saying None area (text "no timer")
heard_of None (asked.Call call cycle size) area = saying None area (text "no timer")
heard_of (Some w) asked.State area = saying (Some w) area (state_of w)
heard_of (Some w) (asked.Call call cycle size) area = behind (called_of w call cycle size) (drop size area)

-- or why it cannot be read
unfoldable pub read_of : Option Watchdog → ℕ → Result Asked Unreadable → List ℕ → Lined
read_of w nth (Ok q) area = heard_of w q area
read_of w nth (Err why) area = saying w area (unreadable_of nth why)

-- the line, from the place after `wdt`
abbrev pub wdt_line : Option Watchdog → ℕ → List ℕ → ℕ → List ℕ → Lined
wdt_line w nth line at area = read_of w nth (line_of line at) area

-- what the code leaves is what the line's definition says; its watchdog is valid
pub record Leaves (x : Lined) (old new after : List ℕ) (r : Option Watchdog) : Type 0 where
  pub watchdog : r ≡ x.watchdog
  pub area : after ≡ x.area
  pub puts : Puts old new x.bytes
  pub valid : IfSome r Valid
