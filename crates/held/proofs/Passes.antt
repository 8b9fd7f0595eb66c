-- Time that passes below the next event: what its ticks ask of their numbers.
use Prim.Native.Nat.{ℕ, ◌+◌, ◌/◌, ◌≤◌, ◌<◌, ◌^◌}
use native.Mathlib.Omega.{arith}
use native.Mathlib.Nat.{pow-le-pow_right, div-mul-le_self, le-div_iff_mul-le}
use mathlib.Core.Bool.{Bool, true, false, cond}
use Rattle.time.specs.declared.clock.Clock.{Clock}
use Rattle.wave.specs.declared.count.Counter.{Counter}
use Rattle.held.specs.Quick.{ticks_to, Passing}

-- the ticks fit a count
pub ticks-fit : {c : Counter} {k : Clock} {shift : ℕ} {down : Bool} {cycle : ℕ} → Passing c k shift down cycle → ticks_to k shift cycle < 2 ^ 32
ticks-fit {c} {k} {shift} {down} {cycle} p = go down p.room
  where
    go : (d : Bool) → cond d (ticks_to k shift cycle ≤ c.count) (c.count + ticks_to k shift cycle < 65536) → ticks_to k shift cycle < 2 ^ 32
    go true h = omega (arith, p.low)
    go false h = omega arith

power-positive : (k : ℕ) → 0 < 2 ^ k
power-positive k = let h : 2 ^ 0 ≤ 2 ^ k = pow-le-pow_right {n = 2} (omega arith) {i = 0} {j = k} (omega arith) in omega arith

pub div_mono : (a b k : ℕ) → a ≤ b → a / 2 ^ k ≤ b / 2 ^ k
div_mono a b k h = (le-div_iff_mul-le (power-positive k)).1 (let l = div-mul-le_self a (2 ^ k) in omega arith)
