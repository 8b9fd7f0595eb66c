-- A loop over a few numbers: what it has still to pass tells what all from a place on do.
use Prim.Native.Nat.{ℕ, ◌+◌, ◌≤◌, ◌<◌}
use mathlib.Core.Bool.{Bool}
use mathlib.Core.Path.{◌≡◌, sym, ap, ◌∙◌}
use mathlib.Core.List.{List, [], ◌∷◌}
use native.Mathlib.Numerals.{add-one}
use native.Mathlib.Omega.{arith}
use lib.ListN.{length, take, drop, get_or}
use lib.Seq.{slice-cons, slice_empty}
use Rattle.few.specs.declared.Few.{Few}
use Rattle.few.specs.Few.{held}

-- at i the rest still tells it
pub record Left (tells : List ℕ → Bool) (items : List ℕ) (len from i : ℕ) : Type 0 where
  pub upto : i ≤ len
  pub same : tells (drop i (take len items)) ≡ tells (drop from (take len items))

module _ (tells : List ℕ → Bool) (f : Few) {from i : ℕ} (l : length f.items ≡ 13) (k : f.len ≤ 13) (v : Left tells f.items f.len from i) where
  -- the next number, and those after it
  next : i < f.len → tells (drop i (held f)) ≡ tells (get_or f.items i 0 ∷ drop (i + 1) (held f))
  next h = ap tells (rw add-one (slice-cons i f.len f.items 0 h (omega arith)))

  -- the next number decides
  pub decides : {b : Bool} → i < f.len → tells (get_or f.items i 0 ∷ drop (i + 1) (held f)) ≡ b → b ≡ tells (drop from (held f))
  decides h e = sym e ∙ sym (next h) ∙ v.same

  -- or is passed
  pub passes : i < f.len → tells (get_or f.items i 0 ∷ drop (i + 1) (held f)) ≡ tells (drop (i + 1) (held f)) → Left tells f.items f.len from (i + 1)
  passes h e = record { upto = omega arith; same = sym e ∙ sym (next h) ∙ v.same }

  -- or there is none
  pub ends : {b : Bool} → f.len ≤ i → tells [] ≡ b → b ≡ tells (drop from (held f))
  ends h e = let u = v.upto in let q : i ≡ f.len = omega arith in sym e ∙ (rw (q, slice_empty) at v.same)
