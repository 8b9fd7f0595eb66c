-- How long the answer of a pin's line may be.
use Rattle.std.specs.Prelude.{ℕ, ◌≤◌, List, length}
use Rattle.pin_lines.specs.PinLines.{pin_line}

-- none is longer, for any line
abbrev pub ShortPin : Type 0
ShortPin = (nth : ℕ) (line : List ℕ) (at : ℕ) → length (pin_line nth line at) ≤ 75
