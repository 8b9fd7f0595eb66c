-- A run with room for a tick's records works its next event's tick.
use Prim.Native.Nat.{ℕ, zero, suc, ◌+◌, ◌-◌, ◌≤◌, ◌<◌}
use native.Mathlib.Omega.{arith}
use native.Mathlib.Nat.{le_refl}
use mathlib.Core.Path.{◌≡◌}
use mathlib.Core.Bool.{Bool, false}
use lib.Dec.{leb}
use lib.ListN.{length, length-append}
use borrow.Author.Tests.{le-leb}
use Rattle.time.specs.declared.units.Prescaler.{Prescaler}
use Rattle.time.specs.Units.{cycle_at}
use Rattle.tick.specs.declared.setting.Setting.{Setting}
use Rattle.passage.specs.Passage.{Run, one, ticks, quiet, gap_in}
use Rattle.passage.specs.Law.{Kept}
use Rattle.passage.proofs.Runs.{bytes_after, ticks-add, one-all, quiet-ticks}
use Rattle.tick.proofs.Sizes.{tick-bytes}

-- a run never goes back
module _ (s : Setting) (p : Prescaler) (fits : ℕ → Bool) where
  one_on : (r : Run) → r.at ≤ (one s p fits r).at
  one_on r = one-all s p fits (λ (q : Run). r.at ≤ q.at) r (omega arith) (omega arith) (λ e. omega arith)

  ticks-on : (n : ℕ) (r : Run) → r.at ≤ (ticks s p fits n r).at
  unfolding ticks
  ticks-on zero r = omega arith
  ticks-on (suc n) r = let a = one_on r in let b = ticks-on n (one s p fits r) in omega arith

-- with room for a tick's records it works the next tick
tick-done : (s : Setting) (p : Prescaler) (room : ℕ) (r : Run) → r.paused ≡ false → length r.bytes + 110 ≤ room → (one s p (λ k. leb k room) r).at ≡ r.at + 1
unfolding one
tick-done s p room r e h =
    let b = tick-bytes s r.moving (cycle_at p (r.at + 1)) in
    simp (e, le-leb (length (bytes_after s p r)) room (simp length-append (omega arith)))

-- and so the quiet ticks and then its next event's
pub event-done : (s : Setting) (p : Prescaler) (room n : ℕ) (r : Run) → Kept s (λ k. leb k room) r → r.paused ≡ false → length r.bytes + 110 ≤ room → gap_in s r < n → r.at + (gap_in s r + 1) ≤ (ticks s p (λ k. leb k room) n r).at
unfolding ticks quiet
event-done s p room n r g e h l =
    let q : near + suc rest ≡ n = omega arith in
    let z = rw q at (ticks-add s p fits near (suc rest) r) in
    let d = tick-done s p room (quiet s near r) e h in
    let o = ticks-on s p fits rest (one s p fits (quiet s near r)) in
    rw (z, quiet-ticks s p fits near r g e (le_refl near)) (omega arith)
  where
    near : ℕ
    near = gap_in s r

    rest : ℕ
    rest = n - suc near

    fits : ℕ → Bool
    fits k = leb k room
