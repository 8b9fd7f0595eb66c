-- What is proved of a log's lines beside the functions.
use Rattle.std.specs.Prelude.{ℕ, ◌≤◌, List, length}
use Rattle.record_ring.specs.declared.Ring.{Ring}
use Rattle.log_lines.specs.Logged.{log_line}

-- no answer is longer, for any log, line and area
abbrev pub Short : Type 0
Short = (ring : Ring) (nth : ℕ) (line : List ℕ) (at : ℕ) (area : List ℕ) → length (log_line ring nth line at area).bytes ≤ 55
