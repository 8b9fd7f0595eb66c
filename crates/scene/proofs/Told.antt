-- The records of the bits raised, written one after the other.
use Rattle.std.proofs.Common.{◌≡◌, ℕ, ◌+◌, ◌*◌, ◌≤◌, true, false, eqb, List, length, arith}
use lib.Seq.{sets}
use Rattle.records.specs.declared.Entry.{Entry}
use Rattle.records.specs.Records.{record_of, records_of, only}
use Rattle.tick.specs.Tick.{trigger_entry}
use Rattle.tick.proofs.Writes.{Put, put-none, put_one, put_then}
use Rattle.tick.proofs.Ticks.{Also, also-most}
use Rattle.scene.specs.declared.state.Scene.{Scene}
use Rattle.scene.specs.Scene.{on, lines_of, told_of}

module _ (s : Scene) (up tifr cycle at : ℕ) (l : List ℕ) where
  abbrev pub Told : ℕ → List ℕ → Type 0
  Told to after = (to ≡ at + length (records_of cycle (told_of s up tifr))) × (after ≡ sets l at (records_of cycle (told_of s up tifr))) × (to ≤ at + 50)

  -- where no bit is raised, and where one is
  pub told_none : eqb up 0 ≡ true → Told at l
  unfolding told_of
  told_none h = let p = put-none cycle at l in rw h (p.next, p.area, omega arith)

  pub told-put : {ta tb tv ti : Entry} {lines n₁ n₂ n₃ n₄ n₅ : ℕ} {l₁ l₂ l₃ l₄ l₅ : List ℕ} → eqb up 0 ≡ false → lines ≡ lines_of s tifr
      → ta ≡ trigger_entry 1 s.id → tb ≡ trigger_entry 2 s.id → tv ≡ trigger_entry 3 s.id → ti ≡ trigger_entry 4 s.id
      → (n₁ ≡ at + 10) × (l₁ ≡ sets l at (record_of cycle (record { kind = 1; body = up * 256 + lines }))) → Also cycle n₁ l₁ (on up s.fa) ta n₂ l₂ → Also cycle n₂ l₂ (on up s.fb) tb n₃ l₃
      → Also cycle n₃ l₃ (on up s.tov) tv n₄ l₄ → Also cycle n₄ l₄ (on up s.icf) ti n₅ l₅ → Told n₅ l₅
  unfolding told_of
  told-put {ta} {tb} {tv} {ti} {lines} {n₁} {n₂} {n₃} {n₄} {n₅} {l₁} {l₂} {l₃} {l₄} {l₅} h ef ea eb ev ei p a b v i =
      let pa : Put (only (on up s.fa) ta) cycle n₁ l₁ n₂ l₂ = record { next = a.0; area = a.1 } in
      let pb : Put (only (on up s.fb) tb) cycle n₂ l₂ n₃ l₃ = record { next = b.0; area = b.1 } in
      let pv : Put (only (on up s.tov) tv) cycle n₃ l₃ n₄ l₄ = record { next = v.0; area = v.1 } in
      let pi : Put (only (on up s.icf) ti) cycle n₄ l₄ n₅ l₅ = record { next = i.0; area = i.1 } in
      let k = put_then (put_then (put_then (put_then (put_one p.0 p.1) pa) pb) pv) pi in
      let ma = also-most cycle n₁ (on up s.fa) ta a.0 in
      let mb = also-most cycle n₂ (on up s.fb) tb b.0 in
      let mv = also-most cycle n₃ (on up s.tov) tv v.0 in
      let mi = also-most cycle n₄ (on up s.icf) ti i.0 in
      rw (h, ← ef, ← ea, ← eb, ← ev, ← ei) (k.next, k.area, omega (arith, p.0))
