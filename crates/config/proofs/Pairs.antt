-- A register of two bytes is sought with 13 for none: found, or passed over.
use Prim.Native.Nat.{ℕ, ◌+◌, ◌<◌}
use native.Mathlib.Omega.{arith}
use mathlib.Core.Bool.{Bool, true, false, cond, ◌&&◌}
use mathlib.Core.Path.{◌≡◌, refl, sym, ◌∙◌}
use lib.Dec.{eqb}
use Rattle.config.specs.declared.Config.{Config}
use Rattle.config.specs.Config.{pair_at}

module _ (c : Config) (present : Bool) (low address place other : ℕ) {r : ℕ} (e : r ≡ pair_at c present low address place 13) where
  pub found : (r ≡ 13 → ⊥) → pair_at c present low address place other ≡ r
  unfolding pair_at
  found n = go (present && eqb address low) (present && c.wide && eqb address (low + 1)) (λ z. n (e ∙ z)) ∙ sym e
    where
      go : (x y : Bool) → (cond x place (cond y (place + 1) 13) ≡ 13 → ⊥) → cond x place (cond y (place + 1) other) ≡ cond x place (cond y (place + 1) 13)
      go true y m = refl
      go false true m = refl
      go false false m = absurd (m refl)

  pub passed : place + 1 < 13 → r ≡ 13 → pair_at c present low address place other ≡ other
  unfolding pair_at
  passed l z = go (present && eqb address low) (present && c.wide && eqb address (low + 1)) (sym e ∙ z)
    where
      go : (x y : Bool) → cond x place (cond y (place + 1) 13) ≡ 13 → cond x place (cond y (place + 1) other) ≡ other
      go true y m = absurd (omega arith)
      go false true m = absurd (omega arith)
      go false false m = refl
