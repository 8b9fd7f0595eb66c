-- What is proved of the dump beside the functions: over any cut it is the dump of the whole log, the changes can be read back from its bytes, and the example of 02 is met.
use Rattle.std.specs.Prelude.{ℕ, ◌+◌, ◌*◌, ◌-◌, ◌/◌, ◌≡◌, cond, List, [], ◌∷◌, ◌++◌, eqb, drop, None}
use Rattle.pieces.specs.Pieces.{Bytes, joined}
use Rattle.verdict.specs.Changes.{Change, changes_of}
use Rattle.verdict.specs.Refusal.{refusal_of}
use Rattle.verdict.specs.Check.{fresh, pins_in}
use Rattle.verdict.specs.Claims.{checked_all}
use Rattle.dump.specs.declared.writer.Writer.{Writer}
use Rattle.figures.specs.Figures.{text}
use Rattle.dump.specs.Dump.{dump_of}
use Rattle.dump.specs.Pieces.{header_of, begun, written_by, after}

-- the lines of pieces one after the other
unfoldable pub written_all : Writer → List (List ℕ) → List ℕ
written_all w [] = []
written_all w (piece ∷ pieces) = written_by w piece ++ written_all (after w piece) pieces

-- what the two passes write: the header of the pieces that the first reads, and the lines of those that the second reads (02, 2.10)
unfoldable pub passes : List (List ℕ) → List (List ℕ) → List ℕ
passes first second = header_of (pins_in (checked_all fresh first)) ++ written_all begun second

-- however the log is cut in each of them, that is its dump
abbrev pub ByPieces : Type 0
ByPieces = (first second : List (List ℕ)) → joined first ≡ joined second → Bytes (joined first) → passes first second ≡ dump_of (joined first)

-- the lines of a text, each ended by a line feed, after the bytes of one that has begun
unfoldable pub lines_in : List ℕ → List ℕ → List (List ℕ)
lines_in line [] = []
lines_in line (b ∷ bs) = cond (eqb b 10) (line ∷ lines_in [] bs) (lines_in (line ++ b ∷ []) bs)

-- the number that decimal digits make, after those that make n
unfoldable pub number_in : ℕ → List ℕ → ℕ
number_in n [] = n
number_in n (d ∷ ds) = number_in (10 * n + (d - 48)) ds

-- the changes in lines, from a time on: `$` declares, `#` sets the time, and any other is a state, p and a pin
unfoldable pub read_lines : ℕ → List (List ℕ) → List Change
read_lines time [] = []
read_lines time ([] ∷ ls) = read_lines time ls
read_lines time ((b ∷ bs) ∷ ls) =
    cond (eqb b 36) (read_lines time ls)
    (cond (eqb b 35) (read_lines (number_in 0 bs) ls)
    (record { pin = number_in 0 (drop 1 bs); cycle = time / 62500; state = b } ∷ read_lines time ls))

-- the changes in a dump's bytes
unfoldable pub read_back : List ℕ → List Change
read_back bytes = read_lines 0 (lines_in [] bytes)

-- reading the changes back yields, in order, each pin record's pin, cycle and 0, 1 or z (02, 2.3), of what the two passes write (02, 2.10)
abbrev pub ReadsBack : Type 0
ReadsBack = (first second : List (List ℕ)) → joined first ≡ joined second → Bytes (joined first) → read_back (passes first second) ≡ changes_of (joined first)

-- the example of 02, 2.3: pin 5 high at cycle 2
abbrev pub example_log : List ℕ
example_log = 0x00 ∷ 0x00 ∷ 0x00 ∷ 0x00 ∷ 0x00 ∷ 0x00 ∷ 0x00 ∷ 0x02 ∷ 0x05 ∷ 0xC0 ∷ []

pub record Example : Type 0 where
  pub accepted : refusal_of example_log ≡ None
  pub dump : dump_of example_log ≡ text "$timescale 1 ps $end\n$var wire 1 p5 p5 $end\n$enddefinitions $end\n#125000\n1p5\n"
