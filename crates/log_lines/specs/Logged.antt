-- The answers of a log's lines (docs/SCRIPT.md, "The door and the log"), the log that they leave and every byte of its area.
use Rattle.std.specs.Prelude.{ℕ, List, [], ◌++◌, ◌≡◌, Result, Ok, Err}
use Rattle.std.specs.Result.{result_unwrap_or}
use Rattle.figures.specs.Figures.{text, number}
use Rattle.words.specs.declared.Unreadable.{Unreadable}
use Rattle.page.specs.Page.{Puts, unreadable_of}
use Rattle.records.specs.Records.{record_at}
use Rattle.display.specs.Answers.{bytes_of}
use Rattle.record_ring.specs.Log.{Valid, refusal_number, added, released}
use Rattle.record_ring.specs.declared.Ring.{Ring}
use Rattle.record_ring.specs.declared.Refusal.{Refusal}
use Rattle.log_lines.specs.declared.asked.Asked.{Asked}
use Rattle.log_lines.specs.declared.asked.Asked.TheVariants as asked
use Rattle.log_lines.specs.Asked.{asked_of}

-- what a line leaves: the log, its area, and the answer's bytes
pub record Lined : Type 0 where
  pub ring : Ring
  pub area : List ℕ
  pub bytes : List ℕ

-- a line that changes nothing
abbrev pub saying : Ring → List ℕ → List ℕ → Lined
saying ring area bytes = record { ring = ring; area = area; bytes = bytes }

-- "ok held=N", or the refusal's number
unfoldable pub held_of : Result Ring Refusal → List ℕ
held_of (Ok after) = text "ok held=" ++ number after.held
held_of (Err refusal) = text "refused " ++ number (refusal_number refusal)

-- "and the place that the record took"
unfoldable pub placed_of : Ring → Result Ring Refusal → List ℕ
placed_of ring (Ok after) = text " place=" ++ number ring.next
placed_of ring (Err refusal) = []

-- a call leaves its log where it is accepted, else the log as it was
abbrev pub left_by : Ring → Result Ring Refusal × List ℕ → List ℕ → Lined
left_by ring x bytes = record { ring = result_unwrap_or x.0 ring; area = x.1; bytes = bytes }

-- "after add: how many are held, and the place that the record took"
abbrev pub added_of : Ring → List ℕ → List ℕ → Lined
added_of ring area bytes = let x = added ring area bytes in left_by ring x (held_of x.0 ++ placed_of ring x.0)

-- "after release"
abbrev pub released_of : Ring → List ℕ → ℕ → Lined
released_of ring area count = let x = released ring area count in left_by ring x (held_of x.0)

-- "after read: the place's ten bytes"
abbrev pub shown_of : List ℕ → ℕ → List ℕ
shown_of area place = bytes_of (text "ok record=") (record_at area place) 10

-- what a line asks for, or why it cannot be read
unfoldable pub heard_of : Ring → ℕ → List ℕ → Result Asked Unreadable → Lined
heard_of ring nth area (Err why) = saying ring area (unreadable_of nth why)
heard_of ring nth area (Ok (asked.Add bytes)) = added_of ring area bytes
heard_of ring nth area (Ok (asked.Release count)) = released_of ring area count
heard_of ring nth area (Ok (asked.Read place)) = saying ring area (shown_of area place)

-- a line, from the place after its name
abbrev pub log_line : Ring → ℕ → List ℕ → ℕ → List ℕ → Lined
log_line ring nth line at area = heard_of ring nth area (asked_of line at)

-- what the code leaves is what the line's definition says; its log is valid
pub record Leaves (x : Lined) (old new after : List ℕ) (r : Ring) : Type 0 where
  pub ring : r ≡ x.ring
  pub area : after ≡ x.area
  pub puts : Puts old new x.bytes
  pub valid : Valid r
