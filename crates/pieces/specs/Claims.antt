-- What is proved of the pieces beside the functions: however a log is cut, its records are those at its places.
use Rattle.std.specs.Prelude.{ℕ, ◌/◌, ◌%◌, ◌≡◌, List, ◌++◌, eqb, length}
use Rattle.pieces.specs.declared.Part.{Part}
use Rattle.pieces.specs.Pieces.{start, between, part_after, wholes, wholes_in, Bytes}

-- the records of bytes and of those after them, wherever the cut, inside a record too
abbrev pub CutAnywhere : Type 0
CutAnywhere = (p : Part) (a b : List ℕ) → (part_after p (a ++ b) ≡ part_after (part_after p a) b) × (wholes p (a ++ b) ≡ wholes p a ++ wholes (part_after p a) b)

-- from a log's start: its records, and whether one is begun at its end
abbrev pub OfALog : Type 0
OfALog = (log : List ℕ) → Bytes log → (wholes start log ≡ wholes_in log (length log / 10)) × (between (part_after start log) ≡ eqb (length log % 10) 0)
