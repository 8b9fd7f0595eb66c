-- What is proved of the watchdog's lines beside the functions.
use Rattle.std.specs.Prelude.{ℕ, ◌+◌, ◌*◌, ◌≤◌, List, length, Option}
use Rattle.oscillator.specs.declared.state.Watchdog.{Watchdog}
use Rattle.wdt_lines.specs.Called.{wdt_line}

-- no answer is longer than this, whatever the watchdog and the line: an area has 4,096 bytes at most, two digits each
abbrev pub Short : Type 0
Short = (w : Option Watchdog) (nth : ℕ) (line : List ℕ) (at : ℕ) (area : List ℕ) → length (wdt_line w nth line at area).bytes ≤ 120 + 2 * 4096
