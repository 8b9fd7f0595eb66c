-- A file that is read chunk by chunk (02, 2.10): what each answer of the file leaves of it.
use Rattle.std.specs.Prelude.{ℕ, ◌+◌, ◌≤◌, ◌≡◌, Bool, true, false, cond, not, ◌&&◌, List, eqb, leb, length, Option, None, Some, unwrap_or}
use Rattle.pieces.specs.Pieces.{Bytes}
use Rattle.verdict.specs.Refusal.{longest}
use Rattle.soak.specs.declared.input.State.{State}
use Rattle.soak.specs.declared.input.State.TheVariants as state
use Rattle.soak.specs.declared.input.Input.{Input}

-- a file that could not be opened
abbrev pub missing : Input
missing = record { state = state.Missing; bytes = 0 }

-- a file that was opened
abbrev pub opened : Input
opened = record { state = state.Open; bytes = 0 }

-- `read` answers how many bytes it put into the area, none at the file's end, or it fails
abbrev pub after_read : Input → Option ℕ → Input
after_read i (Some count) = cond (eqb count 0) (record i { state = state.Ended }) (record i { bytes = i.bytes + count })
after_read i None = record i { state = state.Failed }

-- the bytes of the chunk, where there are any
abbrev pub chunk_of : Option ℕ → Option ℕ
chunk_of (Some count) = cond (eqb count 0) None (Some count)
chunk_of None = None

-- was the file opened
abbrev pub was_opened : State → Bool
was_opened state.Missing = false
was_opened state.Open = true
was_opened state.Ended = true
was_opened state.Failed = true

-- could the file not be opened or read
abbrev pub has_failed : State → Bool
has_failed state.Missing = true
has_failed state.Open = false
has_failed state.Ended = false
has_failed state.Failed = true

-- was the file read to its end
abbrev pub has_ended : State → Bool
has_ended state.Missing = false
has_ended state.Open = false
has_ended state.Ended = true
has_ended state.Failed = false

abbrev pub is_open : Input → Bool
is_open i = was_opened i.state

abbrev pub failed : Input → Bool
failed i = has_failed i.state

abbrev pub ended : Input → Bool
ended i = has_ended i.state

-- whether there may be more to read: nothing failed, the file is not at its end, and no more bytes were read than the longest log has
abbrev pub more : Input → Bool
more i = not (failed i) && not (ended i) && leb i.bytes longest

-- a call for the next chunk: for some answer of `read`, where there may be more to read
pub record Reads (i : Input) (area : List ℕ) (count : Option ℕ) (r : Input) : Type 0 where
  pub answer : Option ℕ
  pub fits : unwrap_or answer 0 ≤ length area
  pub input : r ≡ cond (more i) (after_read i answer) i
  pub chunk : count ≡ cond (more i) (chunk_of answer) None
  pub bytes : Bytes area
