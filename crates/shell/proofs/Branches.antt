-- What the test of a branch of an advance says.
use Prim.Native.Nat.{ℕ, ◌≤◌}
use mathlib.Core.Bool.{Bool, true, false, cond, not, ◌&&◌, true≢false}
use mathlib.Core.Path.{◌≡◌, refl, sym, ◌∙◌}
use lib.Dec.{eqb, leb}
use borrow.Author.Tests.{leb-true}
use Rattle.tick.proofs.Choices.{and_left}
use Rattle.time.specs.Units.{late_at}
use Rattle.held.specs.Quick.{refusing}
use Rattle.climbing.specs.Rise.{strikes_of}

-- a call that may strike and is not still meets an event
pub met : (kind : ℕ) (blocked : Bool) (latest next cycle room : ℕ) → strikes_of kind blocked latest next cycle room ≡ true → eqb (refusing true latest next cycle) 0 ≡ false → next ≤ cycle
unfolding strikes_of refusing
met kind blocked latest next cycle room s f = go (eqb (late_at latest cycle) 0) (leb next cycle) refl refl (and_left _ _ (and_left _ _ (and_left _ _ s))) f
  where
    go : (x y : Bool) → eqb (late_at latest cycle) 0 ≡ x → leb next cycle ≡ y → eqb (cond {A = ℕ} (not x) (late_at latest cycle) (cond (false && y) 6 0)) 0 ≡ true → eqb (cond {A = ℕ} (not x) (late_at latest cycle) (cond (true && y) 6 0)) 0 ≡ false → next ≤ cycle
    go false y p q g n = absurd (true≢false (sym g ∙ p))
    go true true p q g n = leb-true next cycle q
    go true false p q g n = absurd (true≢false n)
