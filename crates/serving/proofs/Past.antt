-- A number past the list of calls names none.
use Prim.Native.Nat.{ℕ, zero, suc, ◌≤◌}
use native.Mathlib.Omega.{arith}
use mathlib.Core.List.{List, [], ◌∷◌}
use mathlib.Core.Path.{◌≡◌, refl}
use lib.ListN.{length}
use Rattle.serving.specs.declared.asked.Wanted.TheVariants as wanted
use Rattle.serving.specs.Asked.{known}
use Rattle.timer.specs.declared.calls.Call.{Call}

-- a number that is at least k and not k is at least the next
pub further : (k n : ℕ) → k ≤ n → (n ≡ k → ⊥) → suc k ≤ n
further k n h e = omega arith

pub known_past : (cs : List Call) (n : ℕ) → length cs ≤ n → known cs n ≡ wanted.Unknown
known_past [] n h = refl
known_past (c ∷ cs) zero h = absurd (omega arith)
known_past (c ∷ cs) (suc n) h = known_past cs n (omega arith)
