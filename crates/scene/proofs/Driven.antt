-- The outputs of the bits raised, as the code makes them.
use Rattle.std.proofs.Common.{◌≡◌, ℕ, ◌+◌, ◌≤◌, Bool, true, false, List, length, ap, ◌∙◌, arith}
use lib.Seq.{length-sets}
use Rattle.records.specs.Records.{records_of}
use Rattle.tick.specs.declared.outputs.Outputs.{Outputs}
use Rattle.tick.specs.declared.setting.Channel.{Channel}
use Rattle.tick.specs.Outputs.{Outs, matched, bottoms_of, begun, Wrote}
use Rattle.tick.proofs.Writes.{Appends, then-appends, matched-appends, bottomed-appends, wrote_none, wrote_then}
use Rattle.scene.specs.declared.state.Scene.{Scene}
use Rattle.scene.specs.Scene.{on, matched_of, driven_of}

bottoms-append : (a b c : Channel) → Appends (bottoms_of a b c)
unfolding bottoms_of
bottoms-append a b c = then-appends (then-appends (bottomed-appends a 0) (bottomed-appends b 1)) (bottomed-appends c 2)

-- a match that is worked where its bit is raised, and left alone where it is not
pub record Hit (kind : ℕ) (ch : Channel) (i : ℕ) (hit : Bool) (cycle : ℕ) (q : Outputs) (l : List ℕ) (r : Outputs) (m : List ℕ) : Type 0 where
  pub wrote : Wrote (matched kind ch i hit true (begun q)) cycle q.to l r m
  pub most : r.to ≤ q.to + 10

module _ {kind : ℕ} {ch : Channel} {i : ℕ} {hit : Bool} {cycle : ℕ} {q : Outputs} {l : List ℕ} {r : Outputs} {m : List ℕ} where
  pub hit-raised : {p : Outputs} {k : List ℕ} → hit ≡ true → Wrote (matched kind ch i true true (begun q)) cycle q.to l p k × (p.to ≤ q.to + 10) → m ≡ k → r ≡ p → Hit kind ch i hit cycle q l r m
  hit-raised h w em er = rw (h, em, er) (record { wrote = w.0; most = w.1 })

  pub hit-left : hit ≡ false → m ≡ l → r ≡ q → Hit kind ch i hit cycle q l r m
  unfolding matched
  hit-left h em er = rw (h, em, er) (record { wrote = wrote_none q cycle l; most = omega arith })

  pub hit-long : Hit kind ch i hit cycle q l r m → length m ≡ length l
  hit-long h = ap length h.wrote.area ∙ length-sets l q.to (records_of cycle (matched kind ch i hit true (begun q)).log)

-- the matches A, B and C
pub hits-wrote : (s : Scene) (up : ℕ) {cycle : ℕ} {r₀ r₁ r₂ r₃ : Outputs} {l₀ l₁ l₂ l₃ : List ℕ}
    → Hit s.kind s.a 0 (on up s.fa) cycle r₀ l₀ r₁ l₁
    → Hit s.kind s.b 1 (on up s.fb) cycle r₁ l₁ r₂ l₂
    → Hit s.kind s.c 2 (on up s.fc) cycle r₂ l₂ r₃ l₃
    → Wrote (matched_of s up (begun r₀)) cycle r₀.to l₀ r₃ l₃
unfolding matched_of
hits-wrote s up u v w =
    wrote_then (matched-appends s.kind s.c 2 (on up s.fc) true) (wrote_then (matched-appends s.kind s.b 1 (on up s.fb) true) u.wrote v.wrote) w.wrote

-- at BOTTOM and elsewhere
module _ (s : Scene) (up : ℕ) (o : Outs) {bottom : Bool} {cycle at : ℕ} {l m : List ℕ} {q : Outputs} where
  pub driven-bottom : {n : List ℕ} {r : Outputs} → bottom ≡ true → Wrote (matched_of s up o) cycle at l q m
      → Wrote (bottoms_of s.a s.b s.c (begun q)) cycle q.to m r n → Wrote (driven_of s up bottom o) cycle at l r n
  unfolding driven_of
  driven-bottom h v w = rw h (wrote_then (bottoms-append s.a s.b s.c) v w)

  pub driven-else : bottom ≡ false → Wrote (matched_of s up o) cycle at l q m → Wrote (driven_of s up bottom o) cycle at l q m
  unfolding driven_of
  driven-else h v = rw h v
