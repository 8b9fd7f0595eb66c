-- What is proved of the door's lines beside the functions.
use Rattle.std.specs.Prelude.{ℕ, ◌≤◌, List, length, Option}
use Rattle.door.specs.declared.Door.{Door}
use Rattle.door_lines.specs.Rules.{door_line}

-- no answer is longer, for any door and line
abbrev pub Short : Type 0
Short = (door : Option Door) (nth : ℕ) (line : List ℕ) (at : ℕ) → length (door_line door nth line at).bytes ≤ 49
