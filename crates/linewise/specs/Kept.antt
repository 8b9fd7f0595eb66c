-- The fields that hold a line: the bytes that are held, then zeros, and the mark of its end.
use Rattle.std.specs.Prelude.{◌-◌, ◌≤◌, ◌≡◌, ◌++◌, length, take, drop, replicate}
use Rattle.linewise.specs.Texts.{Text}
use Rattle.linewise.specs.declared.Line.TheInside.{Inside}

-- the fields of a line
abbrev pub kept : Text → Inside
kept t = record { bytes = t.bytes ++ replicate (501 - length t.bytes) 0; len = length t.bytes; ended = t.ended }

-- the line that the fields hold
abbrev pub kept_in : Inside → Text
kept_in p = record { bytes = take p.len p.bytes; ended = p.ended }

-- no more than there is room for, and zeros behind them
pub record Packed (p : Inside) : Type 0 where
  pub len : p.len ≤ 501
  pub behind : drop p.len p.bytes ≡ replicate (501 - p.len) 0
  pub whole : p ≡ kept (kept_in p)
