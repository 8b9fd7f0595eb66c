-- A line by its first word (docs/SCRIPT.md): the timer's, the bench's other lines, and those that ask for the scheduler or the board.
use Rattle.std.specs.Prelude.{◌≡◌, ℕ, true, false, cond, List, [], length, ◌==◌, Option, Some, None, option_map}
use Rattle.figures.specs.Figures.{text}
use Rattle.words.specs.Words.{find_of, place_of}
use Rattle.words.specs.Numbers.{between}
use Rattle.words.specs.declared.Unreadable.TheVariants as unreadable
use Rattle.page.specs.Page.{unreadable_of}
use Rattle.door_lines.specs.Rules.{door_line}
use Rattle.list_lines.specs.Items.{item_line}
use Rattle.list_lines.specs.Lists.{writes_line}
use Rattle.log_lines.specs.Logged.{log_line}
use Rattle.pin_lines.specs.PinLines.{pin_line}
use Rattle.timer_lines.specs.Made.{config_line}
use Rattle.timer_lines.specs.declared.named.Command.{Command as Of-timer}
use Rattle.timer_lines.specs.Named.{timer_line, named_of as timer-named_of}
use Rattle.wdt_lines.specs.Called.{wdt_line}
use Rattle.bench_lines.specs.declared.desk.Bench.{Bench}
use Rattle.bench_lines.specs.declared.named.Command.{Command}
use Rattle.bench_lines.specs.declared.named.Command.TheVariants as command
use Rattle.bench_lines.specs.declared.named.Device.TheVariants as device
use Rattle.bench_lines.specs.declared.named.Heard.{Heard}
use Rattle.bench_lines.specs.declared.named.Later.{Later}
use Rattle.bench_lines.specs.Lines.{Told, telling, Says, timed_of, configured_of, watched_of, listed_of, doored_of, logged_of, whose_of, recorded_of}

-- the bytes that lines are lent: an area for a call, the log's, and the list's items
pub record Lent : Type 0 where
  pub room : List ℕ
  pub area : List ℕ
  pub items : List ℕ

abbrev pub lent : List ℕ → List ℕ → List ℕ → Lent
lent room area items = record { room = room; area = area; items = items }

-- what a line leaves: the bench, the answer's bytes, and the bytes that it was lent
pub record Lined : Type 0 where
  pub told : Told
  pub lent : Lent

abbrev pub leaving : Told → Lent → Lined
leaving told l = record { told = told; lent = l }

-- a call of the timer or the watchdog, which has the room
abbrev pub in_room : Told → Lent → List ℕ → Lined
in_room told l room = leaving told (lent room l.area l.items)

-- ---- the command

-- the names beside the timer's, those of the shelf last
abbrev pub others : List ℕ
others = text "config preset pin wdt writes item door log record sched board"

-- the command of each, in their order
unfoldable pub other_of : ℕ → Command
other_of n =
    cond (n == 0) command.Config
    (cond (n == 1) command.Preset
    (cond (n == 2) command.Pin
    (cond (n == 3) command.Wdt
    (cond (n == 4) command.Writes
    (cond (n == 5) command.Item
    (cond (n == 6) command.Door
    (cond (n == 7) command.Log
    (cond (n == 8) command.Record
    (cond (n == 9) (command.Shelf device.Scheduler) (command.Shelf device.Board))))))))))

-- the timer's, else one of those
unfoldable pub or_other : Option Of-timer → Option ℕ → Option Command
or_other (Some c) other = Some (command.Timer c)
or_other None other = option_map other_of other

-- the command of a word
abbrev pub command_of : List ℕ → Option Command
command_of word = or_other (timer-named_of word) (place_of others word)

-- ---- what it leaves

-- the line from the place after the name; of the shelf's nothing yet
unfoldable pub named_of : Bench → List ℕ → ℕ → Command → Lent → Lined
named_of b line at (command.Timer c) l =
    let x = timer_line b.timer b.line line at c l.room in
    in_room (timed_of b x) l x.area
named_of b line at command.Config l = leaving (configured_of b (config_line b.timer b.line line at false)) l
named_of b line at command.Preset l = leaving (configured_of b (config_line b.timer b.line line at true)) l
named_of b line at command.Pin l = leaving (telling b (pin_line b.line line at)) l
named_of b line at command.Wdt l =
    let x = wdt_line b.watchdog b.line line at l.room in
    in_room (watched_of b x) l x.area
named_of b line at command.Writes l =
    let x = writes_line b.timer b.line line at l.items l.room in
    leaving (listed_of b x) (lent x.area l.area x.items)
named_of b line at command.Item l =
    let x = item_line b.line line at l.items in
    leaving (telling b x.bytes) (lent l.room l.area x.list)
named_of b line at command.Door l = leaving (doored_of b (door_line b.door b.line line at)) l
named_of b line at command.Log l =
    let x = log_line b.ring b.line line at l.area in
    leaving (logged_of b x) (lent l.room x.area l.items)
named_of b line at command.Record l = leaving (recorded_of b (whose_of line at)) l
named_of b line at (command.Shelf d) l = leaving (telling b []) l

-- ---- and what it asks of the shelf

-- what a line leaves, and what it asks of the shelf, where it has no answer yet
pub record Asking : Type 0 where
  pub lined : Lined
  pub later : Option Later

abbrev pub asking : Lined → Option Later → Asking
asking x later = record { lined = x; later = later }

-- what a command asks of the shelf, from the place after its name to the line's end
unfoldable pub later_of : Command → ℕ → ℕ → Option Later
later_of (command.Shelf d) at end = Some (record { device = d; at = at; end = end })
later_of (command.Timer c) at end = None
later_of command.Config at end = None
later_of command.Preset at end = None
later_of command.Pin at end = None
later_of command.Wdt at end = None
later_of command.Writes at end = None
later_of command.Item at end = None
later_of command.Door at end = None
later_of command.Log at end = None
later_of command.Record at end = None

-- a line of a command, or of a word that is none: "unknown command"
unfoldable pub commanded_of : Bench → List ℕ → ℕ → Option Command → Lent → Asking
commanded_of b line at (Some c) l = asking (named_of b line at c l) (later_of c at (length line))
commanded_of b line at None l = asking (leaving (telling b (unreadable_of b.line unreadable.UnknownCommand)) l) None

-- by the first word, from where it begins
abbrev pub worded_of : Bench → List ℕ → ℕ → Lent → Asking
worded_of b line start l =
    let at = find_of line start 32 in
    commanded_of b line at (command_of (between line start at)) l

-- ---- the code

-- what the code leaves is what the line's definition says, every byte that it was lent too
pub record Leaves (x : Lined) (old new room area items : List ℕ) (r : Bench) : Type 0 where
  pub says : Says x.told old new r
  pub lent : lent room area items ≡ x.lent

pub record Hears (x : Asking) (old new room area items : List ℕ) (r : Heard) : Type 0 where
  pub leaves : Leaves x.lined old new room area items r.bench
  pub later : r.later ≡ x.later
