-- A choice is what both of its sides are.
use Prim.Native.Nat.{ℕ, ◌≤◌}
use mathlib.Core.Path.{◌≡◌, refl}
use mathlib.Core.Bool.{Bool, true, false, cond, ◌&&◌}

-- ---- tests and choices
pub and_left : (a b : Bool) → a && b ≡ true → a ≡ true
and_left true b e = refl
and_left false b e = e

-- a choice is what both of its sides are, each where its test says so
pub cond-case : {A : Type 0} (Q : A → Type 0) (b : Bool) {x y : A} → (b ≡ true → Q x) → (b ≡ false → Q y) → Q (cond b x y)
cond-case Q true h k = h refl
cond-case Q false h k = k refl

pub cond-all : {A : Type 0} (Q : A → Type 0) (b : Bool) {x y : A} → Q x → Q y → Q (cond b x y)
cond-all Q b h k = cond-case Q b (λ e. h) (λ e. k)

pub cond-le : (b : Bool) {x y n : ℕ} → x ≤ n → y ≤ n → cond b x y ≤ n
cond-le b {x} {y} {n} h k = cond-all (λ (z : ℕ). z ≤ n) b h k
