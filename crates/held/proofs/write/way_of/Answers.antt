use Prim.Native.Nat.{ℕ, ◌+◌, ◌≤◌, ◌<◌}
use native.Mathlib.Omega.{arith}
use borrow.Author.Tests.{lt-ltb, le-ltb, ne_eqb}
use Rattle.held.specs.Write.{way_at}
use Rattle.held.proofs.write.way_of.Goals as goal

small : (n : ℕ) → n ≤ 12 → 16 + n < 256
small n l = omega arith

pub overflow_add-result : goal.overflow_add-result
overflow_add-result c = record { fits = small c.place-place.result c.if-place-gt12.false }

pub returns-then-refusing-eq0 : goal.returns-then-refusing-eq0
unfolding way_at
returns-then-refusing-eq0 c = simp (← c.place-place.ensures, c.if-place.true, ← c.refusing.ensures, c.if-refusing-eq0.true)

pub returns-else-refusing-eq0 : goal.returns-else-refusing-eq0
unfolding way_at
returns-else-refusing-eq0 c = simp (← c.place-place.ensures, c.if-place.true, ← c.refusing.ensures, ne_eqb _ _ c.if-refusing-eq0.false)

pub returns-then-place-gt12 : goal.returns-then-place-gt12
unfolding way_at
returns-then-place-gt12 c = simp (← c.place-place.ensures, c.if-place.false, lt-ltb _ _ c.if-place-gt12.true)

pub returns-then-refusing-ne0 : goal.returns-then-refusing-ne0
unfolding way_at
returns-then-refusing-ne0 c = simp (← c.place-place.ensures, c.if-place.false, le-ltb _ _ c.if-place-gt12.false, ← c.refusing-else-place-gt12.ensures, ne_eqb _ _ c.if-refusing-ne0.true)

pub returns-then-place-non_pwm : goal.returns-then-place-non_pwm
unfolding way_at
returns-then-place-non_pwm c = simp (← c.place-place.ensures, c.if-place.false, le-ltb _ _ c.if-place-gt12.false, ← c.refusing-else-place-gt12.ensures, c.if-refusing-ne0.false, ← c.non_pwm.ensures, c.if-place-non_pwm.true)

pub returns-else-place-non_pwm : goal.returns-else-place-non_pwm
unfolding way_at
returns-else-place-non_pwm c = simp (← c.place-place.ensures, c.if-place.false, le-ltb _ _ c.if-place-gt12.false, ← c.refusing-else-place-gt12.ensures, c.if-refusing-ne0.false, ← c.non_pwm.ensures, c.if-place-non_pwm.false)
