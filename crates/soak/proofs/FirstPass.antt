-- The first pass, one chunk more.
use Prim.Native.Nat.{ℕ}
use mathlib.Core.Path.{◌≡◌, refl, ◌∙◌}
use mathlib.Core.List.{List, [], ◌∷◌, ◌++◌}
use lib.ListN.{length, take}
use Rattle.verdict.specs.declared.Check.{Check}
use Rattle.verdict.specs.Check.{fresh, checked}
use Rattle.verdict.specs.Claims.{checked_all}
use Rattle.soak.specs.declared.input.Input.{Input}
use Rattle.soak.specs.Input.{missing}
use Rattle.soak.specs.Passes.{Chunks, Checks}
use Rattle.soak.proofs.Chunks.{ReadsChunk, ReadsNone, chunks-none, chunks-more, chunks-end}

-- the check of the chunks so far
pub record ChecksSoFar (i : Input) (c : Check) : Type 0 where
  pub chunks : List (List ℕ)
  pub read : Chunks i chunks
  pub check : c ≡ checked_all fresh chunks

checked-more : (c : Check) (chunks : List (List ℕ)) (chunk : List ℕ) → checked_all c (chunks ++ chunk ∷ []) ≡ checked (checked_all c chunks) chunk
unfolding checked_all
checked-more c [] chunk = refl
checked-more c (d ∷ chunks) chunk = checked-more (checked c d) chunks chunk

pub checks-none : (i : Input) (c : Check) → i.bytes ≡ 0 → c ≡ fresh → ChecksSoFar i c
unfolding checked_all
checks-none i c o e = record { chunks = []; read = chunks-none i o; check = e }

pub checks-more : (i r : Input) (area : List ℕ) (n : ℕ) (c d : Check) → length area ≡ 640 → ReadsChunk i area n r → d ≡ checked c (take n area) → ChecksSoFar i c → ChecksSoFar r d
checks-more i r area n c d l h e x = record {
  chunks = x.chunks ++ take n area ∷ [];
  read = chunks-more i r area n x.chunks l h x.read;
  check = e ∙ rw (x.check, checked-more);
}

pub checks-end : (i r : Input) (c : Check) → ReadsNone i r → ChecksSoFar i c → Checks r c
checks-end i r c h x = record { chunks = x.chunks; pass = chunks-end i r x.chunks h x.read; check = x.check }

-- a file that cannot be opened has no chunk
pub checks-missing : (i : Input) (c : Check) → i ≡ missing → c ≡ fresh → Checks i c
unfolding checked_all
checks-missing i c o e = record { chunks = []; pass = record { read = chunks-none i (rw o); ends = rw o }; check = e }
