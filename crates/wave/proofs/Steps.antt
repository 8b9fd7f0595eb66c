-- What a step asks of its numbers.
use Rattle.std.proofs.Common.{◌≡◌, ℕ, ◌<◌, Bool, true, false, ◌&&◌, eqb, leb, ◌⊎◌, ℤ, pos, negsuc, sym, refl, ◌∙◌, inl, inr, true≢false, w32, to_z, of_z, eqb-true}
use mathlib.Core.Bool.{false≢true}
use Rattle.wave.specs.declared.kinds.Wave.{Wave}
use Rattle.wave.specs.declared.count.Counter.{Counter}
use Rattle.wave.specs.Kinds.{P}
use Rattle.wave.specs.Count.{negative, falls, Turns}
use Rattle.wave.proofs.Signs.{turn-back}

-- ---- a step
-- the second part of a test
pub met : (b : Bool) (m n : ℕ) → b && eqb m n ≡ true → m ≡ n
met true m n e = eqb-true m n e
met false m n e = absurd (false≢true e)

-- it goes down where the count falls
pub step-sign : (w : Wave) (c : Counter) (s : ℤ) {f b : Bool} → Turns c.direction → negative s ≡ leb P w.kind && negative (to_z w32 (of_z w32 c.direction)) → f ≡ falls w c → f ≡ b → negative s ≡ b
unfolding falls
step-sign w c s t e f b = (simp (turn-back t) at e) ∙ (sym f ∙ b)

-- what `stepped` asks, where the step falls and where it rises
pub step_down : {s : ℤ} {c : ℕ} → Turns s → negative s ≡ true → 0 < c → (to_z w32 (of_z w32 s) ≡ pos 1) ⊎ ((to_z w32 (of_z w32 s) ≡ negsuc 0) × (0 < c))
step_down (inl e) n h = absurd (false≢true (rw e at n))
step_down (inr e) n h = inr (rw e refl, h)

pub step-up : {s : ℤ} {c : ℕ} → Turns s → negative s ≡ false → (to_z w32 (of_z w32 s) ≡ pos 1) ⊎ ((to_z w32 (of_z w32 s) ≡ negsuc 0) × (0 < c))
step-up (inl e) n = inl (rw e refl)
step-up (inr e) n = absurd (true≢false (rw e at n))
