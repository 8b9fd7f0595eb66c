-- What a line is to its callers: the bytes that are held, and whether the line has ended.
use Rattle.std.specs.Prelude.{ℕ, Bool, false, cond, List, []}

pub record Text : Type 0 where
  pub bytes : List ℕ
  pub ended : Bool

-- a line that has not begun
abbrev pub fresh : Text
fresh = record { bytes = []; ended = false }

-- what is held of a line that goes on: nothing of one that has ended
abbrev pub going : Text → List ℕ
going line = cond line.ended [] line.bytes
