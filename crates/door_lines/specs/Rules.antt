-- The answers of a door's lines (docs/SCRIPT.md, "The door and the log"), and the door that they leave: none before a rule is accepted.
use Rattle.std.specs.Prelude.{ℕ, List, ◌++◌, ◌≡◌, Option, Some, None, IfSome, Result, Ok, Err}
use Rattle.figures.specs.Figures.{text, number}
use Rattle.words.specs.declared.Unreadable.{Unreadable}
use Rattle.page.specs.Page.{Puts, unreadable_of}
use Rattle.door.specs.Door.{Valid, refusal_number, set_to, edged, close_of}
use Rattle.door.specs.declared.Door.{Door}
use Rattle.door.specs.declared.Refusal.{Refusal}
use Rattle.door_lines.specs.declared.asked.Asked.{Asked}
use Rattle.door_lines.specs.declared.asked.Asked.TheVariants as asked
use Rattle.door_lines.specs.Asked.{asked_of}

-- what a line leaves: the door, and the answer's bytes
pub record Lined : Type 0 where
  pub door : Option Door
  pub bytes : List ℕ

-- a line that leaves the door as it was
abbrev pub saying : Option Door → List ℕ → Lined
saying door bytes = record { door = door; bytes = bytes }

-- "ok due=N": "when the close is due"
unfoldable pub due_line : Option ℕ → List ℕ
due_line (Some cycle) = text "ok due=" ++ number cycle
due_line None = text "ok due=none"

-- the door of an accepted call and when its close is due, or the refusal's number: "After a refused rule the door that was set stays", and so it does after a refused edge
unfoldable pub kept_of : Option Door → Result Door Refusal → Lined
kept_of door (Ok after) = record { door = Some after; bytes = due_line (close_of after) }
kept_of door (Err refusal) = saying door (text "refused " ++ number (refusal_number refusal))

-- what a line asks for, or why it cannot be read; "no door: an edge before a rule is set"
unfoldable pub heard_of : Option Door → ℕ → Result Asked Unreadable → Lined
heard_of door nth (Err why) = saying door (unreadable_of nth why)
heard_of door nth (Ok (asked.Rule rule)) = kept_of door (set_to rule)
heard_of None nth (Ok (asked.Edge cycle)) = saying None (text "no door")
heard_of (Some d) nth (Ok (asked.Edge cycle)) = kept_of (Some d) (edged d cycle.0)

-- a line, from the place after its name
abbrev pub door_line : Option Door → ℕ → List ℕ → ℕ → Lined
door_line door nth line at = heard_of door nth (asked_of line at)

-- what the code leaves is what the line's definition says; its door is valid
pub record Leaves (x : Lined) (old new : List ℕ) (r : Option Door) : Type 0 where
  pub door : r ≡ x.door
  pub puts : Puts old new x.bytes
  pub valid : IfSome r Valid
