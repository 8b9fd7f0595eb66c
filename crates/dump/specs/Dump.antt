-- A record log as a value change dump (02, 2.3): the text byte by byte.
use Rattle.std.specs.Prelude.{ℕ, zero, suc, ◌+◌, ◌*◌, ◌/◌, ◌%◌, cond, List, [], ◌∷◌, ◌++◌, nat_eq, Option, None, Some}
use Rattle.std.specs.Option.{option_eq}
use Rattle.figures.specs.Figures.{text, decimal}
use Rattle.verdict.specs.Changes.{Change, changes_of, has}

-- the last five decimal digits of a number, with leading zeros
abbrev pub five : ℕ → List ℕ
five n = (48 + n / 10000 % 10) ∷ (48 + n / 1000 % 10) ∷ (48 + n / 100 % 10) ∷ (48 + n / 10 % 10) ∷ (48 + n % 10) ∷ []

-- the line that declares a pin's wire
unfoldable pub var_line : ℕ → List ℕ
var_line pin = text "$var wire 1 p" ++ decimal pin ++ text " p" ++ decimal pin ++ text " $end\n"

-- a line for each pin below n among the changes, by rising number
unfoldable pub var_lines : List Change → ℕ → List ℕ
var_lines cs zero = []
var_lines cs (suc n) = var_lines cs n ++ cond (has n cs) (var_line n) []

-- the time of a cycle in ps, unless it was the last one written; a cycle is 62,500 ps
unfoldable pub time_line : Option ℕ → ℕ → List ℕ
time_line last cycle = cond (option_eq nat_eq last (Some cycle)) [] (text "#" ++ decimal (62500 * cycle) ++ text "\n")

-- the line of a change
unfoldable pub value_line : Change → List ℕ
value_line c = (c.state ∷ text "p") ++ decimal c.pin ++ text "\n"

-- the lines of changes after a cycle, or after none
unfoldable pub change_lines : Option ℕ → List Change → List ℕ
change_lines last [] = []
change_lines last (c ∷ cs) = time_line last c.cycle ++ value_line c ++ change_lines (Some c.cycle) cs

-- the cycle of the last of the changes
unfoldable pub last_cycle : Option ℕ → List Change → Option ℕ
last_cycle last [] = last
last_cycle last (c ∷ cs) = last_cycle (Some c.cycle) cs

-- the lines before the changes: pins have eight bits
unfoldable pub header : List Change → List ℕ
header cs = text "$timescale 1 ps $end\n" ++ var_lines cs 256 ++ text "$enddefinitions $end\n"

-- the dump of a log
unfoldable pub dump_of : List ℕ → List ℕ
dump_of log = header (changes_of log) ++ change_lines None (changes_of log)
