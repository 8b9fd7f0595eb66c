-- The fields that hold a list of items: their bytes, ten an item, then zeros.
use Rattle.std.specs.Prelude.{ℕ, ◌*◌, ◌/◌, ◌-◌, ◌≤◌, ◌≡◌, List, ◌++◌, length, take, drop, replicate}
use Rattle.list_lines.specs.declared.made.Items.TheInside.{Inside}

-- the fields of some items' bytes
abbrev pub kept : List ℕ → Inside
kept l = record { bytes = l ++ replicate (4000 - length l) 0; items = length l / 10 }

-- the bytes that the fields hold
abbrev pub kept_in : Inside → List ℕ
kept_in l = take (10 * l.items) l.bytes

-- no more than there is room for, and zeros behind them
pub record Packed (l : Inside) : Type 0 where
  pub items : l.items ≤ 400
  pub behind : drop (10 * l.items) l.bytes ≡ replicate (4000 - 10 * l.items) 0
  pub whole : l ≡ kept (kept_in l)
