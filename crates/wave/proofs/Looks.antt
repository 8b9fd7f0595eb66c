-- How many compares a search looks at.
use Rattle.std.proofs.Common.{◌≡◌, ℕ, zero, suc, ◌+◌, ◌-◌, ◌<◌, ◌≤◌, Bool, true, false, cond, eqb, leb, List, [], ◌∷◌, length, get_or, sym, refl, ◌∙◌, arith, eq-eqb, ne_eqb, eqb-true, leb-false, leb-true}
use mathlib.Core.Bool.{false≢true}
use Rattle.wave.specs.Distance.{ahead, compares, looked_at, looked}
use Rattle.wave.specs.Claims.{OneTick, Looks, Looked}

-- it ends at the first
ends-here : (count compare : ℕ) (rest : List ℕ) → eqb compare count ≡ true → Looks count (compare ∷ rest) 1
ends-here count compare rest e = record {
  within = omega arith;
  before = λ i h f. omega arith;
  some = λ h. omega arith;
  last = λ h. e;
}

-- what stands before the rest's last
far-before : (count compare k : ℕ) (rest : List ℕ) → eqb compare count ≡ false → Looks count rest k → (i : ℕ) → i + 1 < suc k → eqb (get_or (compare ∷ rest) i 0) count ≡ true → ⊥
far-before count compare k rest e x zero h f = false≢true (sym e ∙ f)
far-before count compare k rest e x (suc i) h f = x.before i (omega arith) f

-- the rest's last, one place on
last_on : (count compare k : ℕ) (rest : List ℕ) → Looks count rest k → suc k < suc (length rest) → eqb (get_or (compare ∷ rest) (suc k - 1) 0) count ≡ true
last_on count compare zero rest x h = let n = x.some (omega arith) in absurd (omega arith)
last_on count compare (suc k) rest x h = let p : suc (suc k) - 1 ≡ suc k = omega arith in let q : suc k - 1 ≡ k = omega arith in rw p (rw q at (x.last (omega arith)))

-- it goes on with the rest
goes_on : (count compare k : ℕ) (rest : List ℕ) → eqb compare count ≡ false → Looks count rest k → Looks count (compare ∷ rest) (suc k)
goes_on count compare k rest e x = record {
  within = omega (arith, x.within);
  before = far-before count compare k rest e x;
  some = λ h. omega arith;
  last = last_on count compare k rest x;
}

looks-from : (count compare k : ℕ) (rest : List ℕ) → Looks count rest k → (b : Bool) → eqb compare count ≡ b → Looks count (compare ∷ rest) (cond b 1 (suc k))
looks-from count compare k rest x true e = ends-here count compare rest e
looks-from count compare k rest x false e = goes_on count compare k rest e x

-- of any list
looks-at : (count : ℕ) (list : List ℕ) → Looks count list (looked_at count list)
unfolding looked_at
looks-at count [] = record { within = omega arith; before = λ i h f. omega arith; some = λ h. omega arith; last = λ h. absurd (omega arith) }
looks-at count (compare ∷ rest) = looks-from count compare (looked_at count rest) rest (looks-at count rest) (eqb compare count) refl

pub looks : Looked
unfolding looked
looks w c ocr = looks-at c.count (compares w ocr)

-- a difference is none exactly where the two are equal
no_way : (low high : ℕ) → low ≤ high → eqb (high - low) 0 ≡ eqb low high
no_way low high h = go (eqb low high) refl
  where
    go : (b : Bool) → eqb low high ≡ b → eqb (high - low) 0 ≡ b
    go true e = eq-eqb (high - low) 0 (let q = eqb-true low high e in omega arith)
    go false e = ne_eqb (high - low) 0 (λ z. let q : low ≡ high = omega arith in false≢true (sym e ∙ eq-eqb low high q))

apart : (low high : ℕ) → high < low → eqb 1 0 ≡ eqb low high
apart low high h = sym (ne_eqb low high (λ e. omega arith))

-- the same, the other way round
turned : (m n : ℕ) → eqb m n ≡ eqb n m
turned m n = go (eqb n m) refl
  where
    go : (b : Bool) → eqb n m ≡ b → eqb m n ≡ b
    go true e = eq-eqb m n (sym (eqb-true n m e))
    go false e = ne_eqb m n (λ q. false≢true (sym e ∙ eq-eqb n m (sym q)))

way-none : (low high : ℕ) (b : Bool) → leb low high ≡ b → eqb (cond b (high - low) 1) 0 ≡ eqb low high
way-none low high true e = no_way low high (leb-true low high e)
way-none low high false e = apart low high (leb-false low high e)

pub one-tick : OneTick
unfolding ahead
one-tick true count compare = way-none compare count (leb compare count) refl
one-tick false count compare = way-none count compare (leb count compare) refl ∙ turned count compare
