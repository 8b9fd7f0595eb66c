-- The fields that hold a page: the bytes that were put, then zeros.
use Rattle.std.specs.Prelude.{ℕ, ◌-◌, ◌≤◌, ◌≡◌, List, ◌++◌, length, take, drop, replicate}
use Rattle.page.specs.declared.Page.TheInside.{Inside}

-- the fields of a page of some bytes
abbrev pub kept : List ℕ → Inside
kept l = record { bytes = l ++ replicate (32768 - length l) 0; len = length l }

-- the bytes that the fields hold
abbrev pub kept_in : Inside → List ℕ
kept_in p = take p.len p.bytes

-- no more than there is room for, and zeros behind them
pub record Packed (p : Inside) : Type 0 where
  pub len : p.len ≤ 32768
  pub behind : drop p.len p.bytes ≡ replicate (32768 - p.len) 0
  pub whole : p ≡ kept (kept_in p)
