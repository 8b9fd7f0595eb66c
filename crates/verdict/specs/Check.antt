-- The check by pieces (02, 2.10): what is kept of a log so far, and what it says at the end.
use Rattle.std.specs.Prelude.{ℕ, suc, ◌+◌, ◌/◌, ◌^◌, Bool, true, false, cond, not, ◌&&◌, List, [], ◌∷◌, eqb, ltb, leb, length, replicate, set, Option, None, Some}
use Rattle.pieces.specs.declared.Whole.{Whole}
use Rattle.pieces.specs.Pieces.{start, between, kind_of, cycle_of, part_after, wholes}
use Rattle.verdict.specs.Refusal.{formed, first_fault, longest}
use Rattle.std.specs.Option.{option_or}
use Rattle.verdict.specs.declared.judge.Fault.{Fault}
use Rattle.verdict.specs.declared.judge.Fault.TheVariants as fault
use Rattle.verdict.specs.declared.judge.Judge.{Judge}
use Rattle.verdict.specs.declared.Check.{Check}

-- before a log's first record
abbrev pub unjudged : Judge
unjudged = record { last = 0; found = None }

-- before a log's first piece
abbrev pub fresh : Check
fresh = record { part = start; seen = 0; judge = unjudged; pins = replicate 256 false }

-- a whole record by itself after a cycle, as `refused_at` has it of a record at its place
abbrev pub refused_after : ℕ → Whole → Option Fault
refused_after last w = first_fault (not (formed (kind_of w) w.body)) (ltb (cycle_of w) last) (leb (2 ^ 48) (cycle_of w))

-- one record more: its cycle, and the first fault
unfoldable pub judged : Judge → Whole → Judge
judged j w = record { last = cycle_of w; found = option_or j.found (refused_after j.last w) }

unfoldable pub judged_all : Judge → List Whole → Judge
judged_all j [] = j
judged_all j (w ∷ ws) = judged_all (judged j w) ws

-- one record more: its pin, where it is a pin record
unfoldable pub noted : List Bool → Whole → List Bool
noted pins w = cond (eqb (kind_of w) 0) (set pins (w.body / 256) true) pins

unfoldable pub noted_all : List Bool → List Whole → List Bool
noted_all pins [] = pins
noted_all pins (w ∷ ws) = noted_all (noted pins w) ws

-- one record more, judged and noted
abbrev pub recorded : Check → Whole → Check
recorded c w = record c { judge = judged c.judge w; pins = noted c.pins w }

-- bytes more; past the longest log they are no longer counted
unfoldable pub counted : ℕ → ℕ → ℕ
counted seen n = cond (leb (seen + n) longest) (seen + n) (suc longest)

-- a piece more
unfoldable pub checked : Check → List ℕ → Check
checked c bytes = record {
  part = part_after c.part bytes;
  seen = counted c.seen (length bytes);
  judge = judged_all c.judge (wholes c.part bytes);
  pins = noted_all c.pins (wholes c.part bytes);
}

-- the length comes first: a wrong one is malformed whatever the records were judged
unfoldable pub refusal_in : Check → Option Fault
refusal_in c = cond (between c.part && leb c.seen longest) c.judge.found (Some fault.Malformed)

-- the pins that the log drives, by number
abbrev pub pins_in : Check → List Bool
pins_in c = c.pins
