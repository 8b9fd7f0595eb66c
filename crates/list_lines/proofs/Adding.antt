-- An item's bytes.
use Rattle.std.proofs.Common.{◌≡◌, ℕ, drop, take}
use native.Mathlib.Nat.{div-one}
use Rattle.std.specs.Int.{to_be_bytes, w128}
use Rattle.records.specs.Records.{bytes_of}

-- the lowest ten bytes of sixteen
pub low_bytes : (n m : ℕ) → n ≡ m → take 10 (drop 6 (to_be_bytes w128 n)) ≡ bytes_of 10 m
unfolding bytes_of
low_bytes n m e = rw (← e, div-one n)
