-- The two passes over a file (02, 2.10): each is the fold of its chunks, for some answers of the file.
use Rattle.std.specs.Prelude.{ℕ, ◌+◌, ◌≤◌, true, false, cond, List, [], ◌++◌, ◌≡◌, length, Option, None, Some}
use Rattle.std.specs.Option.{option_map}
use Rattle.pieces.specs.Pieces.{Bytes, joined}
use Rattle.verdict.specs.declared.Check.{Check}
use Rattle.verdict.specs.Refusal.{longest}
use Rattle.verdict.specs.Check.{fresh, refusal_in, pins_in}
use Rattle.verdict.specs.Claims.{checked_all}
use Rattle.dump.specs.Pieces.{header_of, begun}
use Rattle.dump.specs.Claims.{written_all}
use Rattle.soak.specs.declared.refusal.Refusal.{Refusal}
use Rattle.soak.specs.declared.refusal.Refusal.TheVariants as refusal
use Rattle.soak.specs.declared.input.Input.{Input}
use Rattle.soak.specs.declared.output.Output.{Output}
use Rattle.soak.specs.Input.{is_open, failed, ended, more}
use Rattle.soak.specs.Output.{wrote}

-- ---- any pass

-- the chunks of a file so far: every byte that was read, and no chunk more than one that passes the longest log
pub record Chunks (i : Input) (chunks : List (List ℕ)) : Type 0 where
  pub count : i.bytes ≡ length (joined chunks)
  pub most : i.bytes ≤ longest + 640
  pub bytes : Bytes (joined chunks)

-- a pass ends at a failure, at the file's end, or past the longest log, and nowhere else
pub record Pass (i : Input) (chunks : List (List ℕ)) : Type 0 where
  pub read : Chunks i chunks
  pub ends : more i ≡ false

-- ---- the first pass

-- why the file is refused: it could not be opened or read, before all others, else as the check has it
abbrev pub first_refusal : Input → Check → Option Refusal
first_refusal i c = cond (failed i) (Some refusal.Unreadable) (option_map refusal.Log (refusal_in c))

-- the check is that of the chunks
pub record Checks (i : Input) (c : Check) : Type 0 where
  pub chunks : List (List ℕ)
  pub pass : Pass i chunks
  pub check : c ≡ checked_all fresh chunks

-- ---- the second pass

-- why the file is refused: it could not be opened or read to its end
abbrev pub second_refusal : Input → Option Refusal
second_refusal i = cond (ended i) None (Some refusal.Unreadable)

-- the lines of the chunks
pub record WritesChunks (to : Output) (i : Input) (o : Output) : Type 0 where
  pub opened : is_open i ≡ true
  pub chunks : List (List ℕ)
  pub pass : Pass i chunks
  pub output : o ≡ wrote to (written_all begun chunks)

-- the header of a check and the lines of the chunks, or nothing where the file cannot be opened
pub record Writes (c : Check) (to : Output) (i : Input) (o : Output) : Type 0 where
  pub chunks : List (List ℕ)
  pub pass : Pass i chunks
  pub output : o ≡ wrote to (cond (is_open i) (header_of (pins_in c) ++ written_all begun chunks) [])
