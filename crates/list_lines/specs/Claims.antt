-- What is proved of a list's lines beside the functions.
use Rattle.std.specs.Prelude.{ℕ, ◌+◌, ◌*◌, ◌≤◌, List, length, Option}
use Rattle.counter.specs.declared.state.Timer.{Timer}
use Rattle.list_lines.specs.Items.{item_line}
use Rattle.list_lines.specs.Lists.{writes_line}

-- no answer is longer, for any timer, list, line and area: a list has 4,096 bytes at most, two digits each
abbrev pub Short : Type 0
Short = (t : Option Timer) (nth : ℕ) (line : List ℕ) (at : ℕ) (items area : List ℕ) → length (writes_line t nth line at items area).bytes ≤ 105 + 2 * 4096

-- nor one to an item
abbrev pub ShortItem : Type 0
ShortItem = (nth : ℕ) (line : List ℕ) (at : ℕ) (list : List ℕ) → length (item_line nth line at list).bytes ≤ 49
