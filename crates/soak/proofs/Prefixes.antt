-- The first bytes of an area, and what a descriptor got once they are written to it.
use Prim.Native.Nat.{ℕ, ◌+◌, ◌≤◌, ◌<◌}
use native.Mathlib.Omega.{arith}
use mathlib.Core.Path.{◌≡◌, sym, ap, ◌∙◌}
use mathlib.Core.List.{List}
use lib.ListN.{length, take}
use lib.Seq.{length-take-le}
use Rattle.soak.specs.declared.output.Output.{Output}
use Rattle.soak.specs.Output.{wrote}

pub record Prefix (area : List ℕ) (n : ℕ) (bytes : List ℕ) : Type 0 where
  pub fits : n ≤ length area
  pub same : take n area ≡ bytes

module _ {area : List ℕ} {n : ℕ} {bytes : List ℕ} (f : Prefix area n bytes) where
  pub counts : n ≡ length (take n area)
  counts = sym (length-take-le n area f.fits)

  pub most : length bytes ≤ length area
  most = let l = ap length f.same in let k = counts in omega (arith, f.fits)

  pub room : (had top : ℕ) → had + length area < top → had + length (take n area) < top
  room had top h = let k = counts in omega (arith, f.fits)

  pub wrote-prefix : (o : Output) {r : Output} → r ≡ wrote o (take n area) → r ≡ wrote o bytes
  wrote-prefix o {r} e = e ∙ ap (wrote o) f.same
