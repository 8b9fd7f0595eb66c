-- The way to a compare, over plain values.
use Rattle.std.proofs.Common.{◌≡◌, ℕ, ◌+◌, ◌-◌, ◌<◌, ◌≤◌, min, Bool, true, false, cond, ◌&&◌, leb, sym, refl, ◌∙◌, true≢false, arith, leb-false, leb-true}
use Rattle.wave.specs.Distance.{space, ahead, reach}
use Rattle.coming.specs.Coming.{nearer_in}

-- the way where it is taken, else all there are
pub way-taken : (present down : Bool) (count compare way all : ℕ) → present && leb way all ≡ true → min all way ≡ min all (ahead true down count compare all) → (way ≡ nearer_in present down count compare all) × (way ≤ all)
way-taken true down count compare way all t e = let l = leb-true way all t in let m : way ≡ min all way = omega arith in (m ∙ e, l)
way-taken false down count compare way all t e = absurd (true≢false (sym t))

pub way-left : (present down : Bool) (count compare way all : ℕ) → present && leb way all ≡ false → min all way ≡ min all (ahead true down count compare all) → (all ≡ nearer_in present down count compare all) × (all ≤ all)
unfolding ahead
way-left true down count compare way all t e = let l = leb-false way all t in let m : all ≡ min all way = omega arith in (m ∙ e, omega arith)
way-left false down count compare way all t e = (omega arith, omega arith)

-- where the count turns or wraps lies within reach, and within a count's range
pub space-within : (down : Bool) (count top max : ℕ) → count ≤ max → top ≤ max → max < 65536 → space down count top max ≤ reach down count
unfolding space
space-within true count top max c t m = omega arith
space-within false count top max c t m = go (leb count top)
  where
    go : (b : Bool) → cond b (top - count) (max - count) ≤ 4294967295 - count
    go true = omega arith
    go false = omega arith

pub space-moves : (down : Bool) (count top max n : ℕ) → count ≤ max → top ≤ max → max < 65536 → n ≤ space down count top max → cond down (n ≤ count) (count + n < 65536)
unfolding space
space-moves true count top max n c t m h = h
space-moves false count top max n c t m h = go (leb count top) refl h
  where
    go : (b : Bool) → leb count top ≡ b → n ≤ cond b (top - count) (max - count) → count + n < 65536
    go true e h = let l = leb-true count top e in omega arith
    go false e h = omega arith

pub space-short : (down : Bool) (count top max n : ℕ) → count ≤ max → top ≤ max → max < 65536 → n ≤ space down count top max → n < 65536
space-short down count top max n c t m h = go down (space-moves down count top max n c t m h)
  where
    go : (d : Bool) → cond d (n ≤ count) (count + n < 65536) → n < 65536
    go true l = omega arith
    go false l = omega arith
