-- The dump by pieces (02, 2.10): its header out of the check's pins, and the lines of a piece.
use Rattle.std.specs.Prelude.{ℕ, zero, suc, Bool, false, cond, List, [], ◌++◌, get_or, None}
use Rattle.pieces.specs.Pieces.{start, part_after, wholes}
use Rattle.verdict.specs.Changes.{changes}
use Rattle.dump.specs.declared.writer.Writer.{Writer}
use Rattle.figures.specs.Figures.{text}
use Rattle.dump.specs.Dump.{var_line, change_lines, last_cycle}

-- a line for each pin below n that is driven, by rising number
unfoldable pub vars_of : List Bool → ℕ → List ℕ
vars_of pins zero = []
vars_of pins (suc n) = vars_of pins n ++ cond (get_or pins n false) (var_line n) []

-- the lines before the changes
unfoldable pub header_of : List Bool → List ℕ
header_of pins = text "$timescale 1 ps $end\n" ++ vars_of pins 256 ++ text "$enddefinitions $end\n"

-- before a log's first piece
abbrev pub begun : Writer
begun = record { part = start; last = None }

-- the lines of a piece
unfoldable pub written_by : Writer → List ℕ → List ℕ
written_by w bytes = change_lines w.last (changes (wholes w.part bytes))

-- what is kept after it
unfoldable pub after : Writer → List ℕ → Writer
after w bytes = record { part = part_after w.part bytes; last = last_cycle w.last (changes (wholes w.part bytes)) }
