-- A cycle accepted or refused, test by test.
use Prim.Native.Nat.{ℕ, ◌-◌, ◌^◌}
use mathlib.Core.Path.{◌≡◌}
use mathlib.Core.Bool.{Bool, true, false, ◌&&◌}
use lib.Dec.{eqb, leb, ltb}
use Rattle.held.specs.declared.state.Held.{Held}
use Rattle.held.specs.Quick.{refusing, accepted_in}
use Rattle.held.proofs.Puts.{latest_in}

-- the number told, and what is left
abbrev pub Accepts : Bool → ℕ → Held → Held → ℕ → Type 0
Accepts tested cycle h g n = (n ≡ refusing tested h.timer.clock.latest.0 h.next cycle) × (g ≡ accepted_in tested cycle h)

module _ (h : Held) (tested : Bool) (cycle : ℕ) where
  pub too_large : ltb (2 ^ 62 - 1) cycle ≡ true → Accepts tested cycle h h 2
  unfolding refusing accepted_in
  too_large e = (simp e, simp e)

  pub passed : ltb (2 ^ 62 - 1) cycle ≡ false → ltb cycle h.timer.clock.latest.0 ≡ true → Accepts tested cycle h h 3
  unfolding refusing accepted_in
  passed e f = (simp (e, f), simp (e, f))

  pub due : ltb (2 ^ 62 - 1) cycle ≡ false → ltb cycle h.timer.clock.latest.0 ≡ false → tested && leb h.next cycle ≡ true → Accepts tested cycle h h 6
  unfolding refusing accepted_in
  due e f d = (simp (e, f, d), simp (e, f, d))

  pub taken : ltb (2 ^ 62 - 1) cycle ≡ false → ltb cycle h.timer.clock.latest.0 ≡ false → tested && leb h.next cycle ≡ false → Accepts tested cycle h (latest_in h cycle) 0
  unfolding refusing accepted_in
  taken e f d = (simp (e, f, d), simp (e, f, d))

  -- what an accepted and a refused cycle leave
  pub left-taken : (g : Held) (n : ℕ) → Accepts tested cycle h g n → eqb n 0 ≡ true → g ≡ latest_in h cycle
  unfolding accepted_in
  left-taken g n a z = simp (a.1, ← a.0, z)

  pub left_alone : (g : Held) (n : ℕ) → Accepts tested cycle h g n → eqb n 0 ≡ false → g ≡ h
  unfolding accepted_in
  left_alone g n a z = simp (a.1, ← a.0, z)
