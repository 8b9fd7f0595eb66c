-- The item in ten bytes: sixteen bits and 64.
use Prim.Native.Nat.{ℕ, ◌+◌, ◌*◌, ◌/◌, ◌%◌, ◌^◌, ◌≤◌, ◌<◌}
use native.Mathlib.Omega.{arith}
use native.Mathlib.Numerals.{towards_suc}
use mathlib.Core.Path.{◌≡◌, ◌∙◌}
use mathlib.Core.List.{List}
use lib.ListN.{length, take, drop}
use Rattle.records.specs.Records.{number_of}
use Rattle.records.proofs.Bytes.{bytes-from}
use Rattle.items.specs.Items.{item_in}

two-parts : (list : List ℕ) (from : ℕ) → from + 10 ≤ length list
    → number_of (take 10 (drop from list)) ≡ number_of (take 2 (drop from list)) * 2 ^ 64 + number_of (take 8 (drop (from + 2) list))
unfolding number_of
two-parts list from h = rw (bytes-from 10 from list h, bytes-from 2 from list (omega arith), bytes-from 8 (from + 2) list (omega arith)) (simp towards_suc (omega arith))

pub item-at : (list : List ℕ) (from head rest : ℕ) → from + 10 ≤ length list
    → (head ≡ number_of (take 2 (drop from list))) × (head < 256 ^ 2) → (rest ≡ number_of (take 8 (drop (from + 2) list))) × (rest < 256 ^ 8)
    → record { address = head / 64; value = head % 64 * 4 + rest / 2 ^ 62; cycle = record { 0 = rest % 2 ^ 62 } } ≡ item_in (take 10 (drop from list))
unfolding item_in
item-at list from head rest l h r =
    let n : ℕ = number_of (take 10 (drop from list)) in
    let e : n ≡ head * 2 ^ 64 + rest = two-parts list from l ∙ rw (h.0, r.0) in
    let a : head / 64 ≡ n / 2 ^ 70 = rw e (omega (arith, h.1, r.1)) in
    let v : head % 64 * 4 + rest / 2 ^ 62 ≡ n / 2 ^ 62 % 2 ^ 8 = rw e (omega (arith, h.1, r.1)) in
    let c : rest % 2 ^ 62 ≡ n % 2 ^ 62 = rw e (omega (arith, h.1, r.1)) in
    rw (a, v, c)
