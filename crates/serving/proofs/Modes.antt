-- Sleep modes as a byte has them.
use Prim.Native.Nat.{ℕ, ◌%◌}
use native.Mathlib.Omega.{arith}
use native.Mathlib.Nat.{mod-eq_of_lt}
use mathlib.Core.Bool.{Bool, true, false, ◌||◌}
use mathlib.Core.List.{[], ◌∷◌}
use mathlib.Core.Path.{◌≡◌, refl}
use lib.Bits.{and_zero_r}
use lib.Dec.{ltb}
use lib.ListN.{get_or-eq_default}
use borrow.Author.Tests.{ltb-true, ltb-false, ne_eqb}
use Rattle.counter.specs.declared.state.Timer.{Timer}
use Rattle.counter.specs.Halts.{halting}

-- a mode over 7 has no bit, so that it halts
pub any-mode : (t : Timer) (mode : ℕ) → ltb 7 mode || halting t (mode % 8) ≡ halting t mode
unfolding halting
any-mode t mode = go (ltb 7 mode) refl
  where
    go : (b : Bool) → ltb 7 mode ≡ b → b || halting t (mode % 8) ≡ halting t mode
    go true e =
        let l = ltb-true 7 mode e in
        rw (get_or-eq_default {A = ℕ} (1 ∷ 2 ∷ 4 ∷ 8 ∷ 16 ∷ 32 ∷ 64 ∷ 128 ∷ []) 0 {n = mode} (omega arith), and_zero_r t.config.sleeprun, ne_eqb mode 0 (λ z. omega arith)) refl
    go false e = rw (mod-eq_of_lt {n = mode} {m = 8} (let l = ltb-false 7 mode e in omega arith)) refl
