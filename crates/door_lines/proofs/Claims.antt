-- How long the answer of a door's line may be.
use Rattle.std.proofs.Common.{ℕ, arith, Option, Some, None, Result, Ok, Err}
use Rattle.words.specs.declared.Unreadable.{Unreadable}
use Rattle.page.proofs.Lengths.{Upto, said, numbered, unreadable-short}
use Rattle.door.specs.Door.{set_to, edged}
use Rattle.door.specs.declared.Door.{Door}
use Rattle.door.specs.declared.Refusal.{Refusal}
use Rattle.door_lines.specs.declared.asked.Asked.{Asked}
use Rattle.door_lines.specs.declared.asked.Asked.TheVariants as asked
use Rattle.door_lines.specs.Asked.{asked_of}
use Rattle.door_lines.specs.Rules.{due_line, kept_of, heard_of}
use Rattle.door_lines.specs.Claims.{Short}

due-short : (due : Option ℕ) → Upto 49 (due_line due)
unfolding due_line
due-short (Some cycle) = numbered _ _ cycle (omega arith)
due-short None = said _ (omega arith)

kept-short : (door : Option Door) (called : Result Door Refusal) → Upto 49 (kept_of door called).bytes
unfolding kept_of
kept-short door (Ok after) = due-short _
kept-short door (Err refusal) = numbered _ _ _ (omega arith)

heard-short : (door : Option Door) (nth : ℕ) (q : Result Asked Unreadable) → Upto 49 (heard_of door nth q).bytes
unfolding heard_of
heard-short door nth (Err why) = unreadable-short nth why
heard-short door nth (Ok (asked.Rule rule)) = kept-short door (set_to rule)
heard-short None nth (Ok (asked.Edge cycle)) = said _ (omega arith)
heard-short (Some d) nth (Ok (asked.Edge cycle)) = kept-short (Some d) (edged d cycle.0)

pub short : Short
short door nth line at = heard-short door nth (asked_of line at)
