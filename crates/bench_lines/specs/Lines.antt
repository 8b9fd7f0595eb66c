-- What each line leaves of the bench, from what its own crate says of it (docs/SCRIPT.md).
use Rattle.std.specs.Prelude.{◌≡◌, ℕ, Bool, true, false, ◌&&◌, cond, List, length, ◌==◌, Option, Result, Ok, Err}
use Rattle.figures.specs.Figures.{text}
use Rattle.words.specs.Words.{skip_of, exactly_of, and_then}
use Rattle.words.specs.Numbers.{next_of}
use Rattle.words.specs.declared.Unreadable.{Unreadable}
use Rattle.page.specs.Page.{Puts, unreadable_of}
use Rattle.counter.specs.declared.state.Timer.{Timer}
use Rattle.door.specs.declared.Door.{Door}
use Rattle.door_lines.specs.Rules as door
use Rattle.list_lines.specs.Lists as list
use Rattle.log_lines.specs.Logged as log
use Rattle.oscillator.specs.declared.state.Watchdog.{Watchdog}
use Rattle.record_ring.specs.declared.Ring.{Ring}
use Rattle.timer_lines.specs.Called as timer
use Rattle.timer_lines.specs.Made as made
use Rattle.wdt_lines.specs.Called as wdt
use Rattle.bench_lines.specs.declared.desk.Bench.{Bench}
use Rattle.bench_lines.specs.declared.desk.Whose.{Whose}
use Rattle.bench_lines.specs.declared.desk.Whose.TheVariants as whose
use Rattle.bench_lines.specs.Desk.{Sound}

-- what a line leaves: the bench, and the answer's bytes
pub record Told : Type 0 where
  pub bench : Bench
  pub bytes : List ℕ

abbrev pub telling : Bench → List ℕ → Told
telling b bytes = record { bench = b; bytes = bytes }

-- the bench with another timer, and so many bytes for the file
abbrev pub worked : Bench → Option Timer → ℕ → Bench
worked b t kept =
    record { timer = t; watchdog = b.watchdog; door = b.door; ring = b.ring; line = b.line; whose = b.whose; kept = kept; anew = b.anew }

-- "the records of every call on the timer, `writes` too": the file takes them where it is the script's timer's
unfoldable pub kept_of : Whose → ℕ → ℕ
kept_of whose.Script written = written
kept_of whose.Zero written = 0
kept_of whose.One written = 0
kept_of whose.Two written = 0
kept_of whose.Nobody written = 0

-- a timer's line
abbrev pub timed_of : Bench → timer.Lined → Told
timed_of b x = telling (worked b x.timer (kept_of b.whose x.written)) x.bytes

-- the bench with another timer, and whether the file is begun anew
abbrev pub making : Bench → Option Timer → Bool → Bench
making b t anew =
    record { timer = t; watchdog = b.watchdog; door = b.door; ring = b.ring; line = b.line; whose = b.whose; kept = b.kept; anew = anew }

-- does the file take the script's timer's records
unfoldable pub on_script : Whose → Bool
on_script whose.Script = true
on_script whose.Zero = false
on_script whose.One = false
on_script whose.Two = false
on_script whose.Nobody = false

-- `config` and `preset`: "the file is begun anew here and at every accepted configuration"
abbrev pub configured_of : Bench → made.Configured → Told
configured_of b x = telling (making b x.timer (x.fresh && on_script b.whose)) x.bytes

-- the bench with another watchdog, another door, another log
abbrev pub keeping : Bench → Option Watchdog → Option Door → Ring → Bench
keeping b w d ring = record { timer = b.timer; watchdog = w; door = d; ring = ring; line = b.line; whose = b.whose; kept = b.kept; anew = b.anew }

-- a watchdog's line: its records "are not among them"
abbrev pub watched_of : Bench → wdt.Lined → Told
watched_of b x = telling (keeping b x.watchdog b.door b.ring) x.bytes

-- `writes`
abbrev pub listed_of : Bench → list.Lined → Told
listed_of b x = telling (worked b x.timer (kept_of b.whose x.written)) x.bytes

-- a door's line
abbrev pub doored_of : Bench → door.Lined → Told
doored_of b x = telling (keeping b b.watchdog x.door b.ring) x.bytes

-- a log's line
abbrev pub logged_of : Bench → log.Lined → Told
logged_of b x = telling (keeping b b.watchdog b.door x.ring) x.bytes

-- the board's timer of a number, "the board's timer T"
unfoldable pub timer_named : ℕ → Whose
timer_named n = cond (n == 0) whose.Zero (cond (n == 1) whose.One whose.Two)

-- "record | record T": whose records, the script's timer's where there is no word, else "the board's timer T"
unfoldable pub whose_of : List ℕ → ℕ → Result Whose Unreadable
whose_of line at =
    cond (skip_of line at == length line) (Ok whose.Script) (and_then (exactly_of line at 1) (λ _. and_then (next_of line at 10 2) (λ t. Ok (timer_named t.value))))

-- "answers `ok recording`", and "the file is begun anew here"
unfoldable pub recorded_of : Bench → Result Whose Unreadable → Told
recorded_of b (Ok w) =
    telling (record { timer = b.timer; watchdog = b.watchdog; door = b.door; ring = b.ring; line = b.line; whose = w; kept = b.kept; anew = true }) (text "ok recording")
recorded_of b (Err why) = telling b (unreadable_of b.line why)

-- what the code leaves is what the line's definition says, and sound
pub record Says (x : Told) (old new : List ℕ) (r : Bench) : Type 0 where
  pub bench : r ≡ x.bench
  pub puts : Puts old new x.bytes
  pub sound : Sound r
