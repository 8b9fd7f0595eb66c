-- The tests of an address, one timer after the other.
use Prim.Native.Nat.{ℕ}
use mathlib.Core.Bool.{Bool}
use mathlib.Core.Path.{◌≡◌, sym, ◌∙◌}
use Rattle.config.specs.declared.Config.{Config}
use Rattle.m328p.specs.Places.{is_of}

-- a test's result, of the configuration that it was made with
pub told_of : {k c : Config} (address : ℕ) {r b : Bool} → k ≡ c → r ≡ is_of k address → r ≡ b → is_of c address ≡ b
told_of address e h g = rw e at (sym h ∙ g)
