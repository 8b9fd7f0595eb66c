-- What a script works on (docs/SCRIPT.md): "one timer, one watchdog, one board, one scheduler, one door, one log, one list of at most 400 items".
use Rattle.std.specs.Prelude.{false, [], None, IfSome}
use Rattle.counter.specs.Valid.{Valid}
use Rattle.oscillator.specs.State.{Valid as Watchdog-as-Valid}
use Rattle.door.specs.Door.{Valid as Door-as-Valid}
use Rattle.record_ring.specs.Log.{empty, Valid as Ring-as-Valid}
use Rattle.board.specs.State.{Valid as Board-as-Valid}
use Rattle.bench_lines.specs.declared.desk.Bench.{Bench}
use Rattle.bench_lines.specs.declared.desk.Shelf.{Shelf}
use Rattle.bench_lines.specs.declared.desk.Whose.TheVariants as whose

-- the premises of the lines: what they work on is valid
pub record Sound (b : Bench) : Type 0 where
  pub timer : IfSome b.timer Valid
  pub watchdog : IfSome b.watchdog Watchdog-as-Valid
  pub door : IfSome b.door Door-as-Valid
  pub ring : Ring-as-Valid b.ring

-- and of those on the shelf
pub record Stable (s : Shelf) : Type 0 where
  pub board : IfSome s.board Board-as-Valid

-- before a script's first line there is no timer, no watchdog and no door, the log is empty, and nobody's records are kept
abbrev pub fresh_bench : Bench
fresh_bench = record { timer = None; watchdog = None; door = None; ring = empty; line = 0; whose = whose.Nobody; kept = 0; anew = false }

-- the scheduler is empty, and there is no board
abbrev pub fresh_shelf : Shelf
fresh_shelf = record { scheduler = []; board = None }
