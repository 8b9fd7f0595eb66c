-- Laws of the check: one record more, and one piece more.
use Prim.Native.Nat.{ℕ, suc, ◌+◌}
use native.Mathlib.Omega.{arith}
use mathlib.Core.Path.{◌≡◌, refl}
use mathlib.Core.Bool.{Bool, true, false, cond, ◌||◌}
use mathlib.Core.List.{List, [], ◌∷◌, ◌++◌}
use lib.Dec.{leb}
use lib.ListN.{length, length-append}
use borrow.Author.Tests.{leb-false, lt-leb}
use Rattle.pieces.specs.declared.Part.{Part}
use Rattle.pieces.specs.declared.Whole.{Whole}
use Rattle.pieces.specs.Pieces.{part_after, wholes}
use Rattle.pieces.proofs.Cuts.{part-append, wholes-append}
use Rattle.verdict.specs.declared.judge.Judge.{Judge}
use Rattle.verdict.specs.declared.Check.{Check}
use Rattle.verdict.specs.Refusal.{longest}
use Rattle.verdict.specs.Check.{judged, judged_all, noted, noted_all, counted, checked}

pub or-true : (b : Bool) → b || true ≡ true
or-true true = refl
or-true false = refl

pub or-false : (b : Bool) → b || false ≡ b
or-false true = refl
or-false false = refl

-- ---- the end of a piece

pub check-is : (c : Check) (bytes : List ℕ) (p : Part) (seen : ℕ) (j : Judge) (pins : List Bool)
    → p ≡ part_after c.part bytes → seen ≡ counted c.seen (length bytes) → j ≡ judged_all c.judge (wholes c.part bytes) → pins ≡ noted_all c.pins (wholes c.part bytes)
    → record { part = p; seen = seen; judge = j; pins = pins } ≡ checked c bytes
unfolding checked
check-is c bytes p seen j pins a b d e = rw (a, b, d, e)

-- ---- one piece after another

pub judged-append : (j : Judge) (ws vs : List Whole) → judged_all j (ws ++ vs) ≡ judged_all (judged_all j ws) vs
unfolding judged_all
judged-append j [] vs = refl
judged-append j (w ∷ ws) vs = judged-append (judged j w) ws vs

pub noted-append : (pins : List Bool) (ws vs : List Whole) → noted_all pins (ws ++ vs) ≡ noted_all (noted_all pins ws) vs
unfolding noted_all
noted-append pins [] vs = refl
noted-append pins (w ∷ ws) vs = noted-append (noted pins w) ws vs

counted-more : (s m n : ℕ) → counted (counted s m) n ≡ counted s (m + n)
unfolding counted
counted-more s m n = go (leb (s + m) longest) refl
  where
    go : (b : Bool) → leb (s + m) longest ≡ b → cond (leb (cond b (s + m) (suc longest) + n) longest) (cond b (s + m) (suc longest) + n) (suc longest) ≡ cond (leb (s + (m + n)) longest) (s + (m + n)) (suc longest)
    go true e = let a : s + m + n ≡ s + (m + n) = omega arith in rw a
    go false e =
        let l = leb-false (s + m) longest e in
        rw (lt-leb (suc longest + n) longest (omega arith), lt-leb (s + (m + n)) longest (omega arith))

pub checked-append : (c : Check) (a b : List ℕ) → checked (checked c a) b ≡ checked c (a ++ b)
unfolding checked
checked-append c a b =
    rw (part-append c.part a b, length-append a b, ← counted-more c.seen (length a) (length b), wholes-append c.part a b, judged-append c.judge (wholes c.part a) (wholes (part_after c.part a) b), noted-append c.pins (wholes c.part a) (wholes (part_after c.part a) b))
