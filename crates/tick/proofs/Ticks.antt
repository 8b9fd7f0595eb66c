-- The records of a tick's flags, and a tick from its parts.
use Prim.Native.Nat.{ℕ, ◌+◌, ◌≤◌}
use native.Mathlib.Omega.{arith}
use mathlib.Core.Path.{◌≡◌, sym, ap, ◌∙◌}
use mathlib.Core.Bool.{Bool, true, false, cond, ◌||◌, true≢false}
use mathlib.Core.List.{List, [], ◌++◌}
use lib.ListN.{length, get_or}
use lib.Seq.{sets}
use lib.IntN.{ℤ}
use lib.Bits.{bit_or}
use mir.Syntax.{w32}
use mir.Val.{to_z, of_z}
use Rattle.records.specs.declared.Entry.{Entry}
use Rattle.records.specs.Records.{record_of, records_of, only}
use Rattle.records.proofs.Records.{only-length}
use Rattle.wave.specs.Count.{top_of, next_count, next_direction, counted, Turns}
use Rattle.wave.proofs.Signs.{turn-back}
use Rattle.tick.specs.declared.happenings.Events.{Events}
use Rattle.tick.specs.declared.outputs.Outputs.{Outputs}
use Rattle.tick.specs.declared.tick.Ticked.{Ticked}
use Rattle.tick.specs.declared.setting.Moving.{Moving}
use Rattle.tick.specs.declared.setting.Setting.{Setting}
use Rattle.tick.specs.Outputs.{outputs, outs_of, Wrote}
use Rattle.tick.specs.Tick.{events_at, events_of, raised, raises, flag_entry, trigger_entry, flag_log_of, flag_log, Step, tick_by, tick, Worked, Logs}
use Rattle.tick.proofs.Still.{next-turns}
use Rattle.tick.proofs.Writes.{Put, put-none, put_one, put_then, put-logs}

-- what `also` promises
abbrev pub Also : ℕ → ℕ → List ℕ → Bool → Entry → ℕ → List ℕ → Type 0
Also cycle at l wanted e to after = (to ≡ at + length (records_of cycle (only wanted e))) × (after ≡ sets l at (records_of cycle (only wanted e)))

pub also-most : (cycle at : ℕ) (wanted : Bool) (e : Entry) {to : ℕ} → to ≡ at + length (records_of cycle (only wanted e)) → to ≤ at + 10
also-most cycle at wanted e h = let o = only-length cycle wanted e in omega arith

-- where no flag is raised there is no entry
no-entries : (v a b i c : Bool) (f ta tb tv ti : Entry) → (v || a || b || i || c) ≡ false
    → only (v || a || b || i || c) f ++ only a ta ++ only b tb ++ only v tv ++ only i ti ≡ []
no-entries true a b i c f ta tb tv ti h = absurd (true≢false h)
no-entries false true b i c f ta tb tv ti h = absurd (true≢false h)
no-entries false false true i c f ta tb tv ti h = absurd (true≢false h)
no-entries false false false true c f ta tb tv ti h = absurd (true≢false h)
no-entries false false false false c f ta tb tv ti h = rw h

module _ (flag : Entry) (id : ℕ) (e : Events) (cycle at : ℕ) (l : List ℕ) where
  abbrev pub Flagged : ℕ → List ℕ → Type 0
  Flagged to after = (to ≡ at + length (records_of cycle (flag_log_of flag id e))) × (after ≡ sets l at (records_of cycle (flag_log_of flag id e))) × (to ≤ at + 50)

  -- where no flag is raised, and where one is
  pub flags-none : (e.overflow || e.a || e.b || e.capture || e.c) ≡ false → Flagged at l
  unfolding flag_log_of raises
  flags-none h =
      let p = put-none cycle at l in
      let z = no-entries e.overflow e.a e.b e.capture e.c flag (trigger_entry 1 id) (trigger_entry 2 id)
      (trigger_entry 3 id) (trigger_entry 4 id) h in
      rw z (p.next, p.area, omega arith)

  pub flags-put : {ta tb tv ti : Entry} {n₁ n₂ n₃ n₄ n₅ : ℕ} {l₁ l₂ l₃ l₄ l₅ : List ℕ} → (e.overflow || e.a || e.b || e.capture || e.c) ≡ true
      → ta ≡ trigger_entry 1 id → tb ≡ trigger_entry 2 id → tv ≡ trigger_entry 3 id → ti ≡ trigger_entry 4 id
      → (n₁ ≡ at + 10) × (l₁ ≡ sets l at (record_of cycle flag)) → Also cycle n₁ l₁ e.a ta n₂ l₂ → Also cycle n₂ l₂ e.b tb n₃ l₃
      → Also cycle n₃ l₃ e.overflow tv n₄ l₄ → Also cycle n₄ l₄ e.capture ti n₅ l₅ → Flagged n₅ l₅
  unfolding flag_log_of raises
  flags-put {ta} {tb} {tv} {ti} {n₁} {n₂} {n₃} {n₄} {n₅} {l₁} {l₂} {l₃} {l₄} {l₅} h ea eb ev ei p a b v i =
      let pa : Put (only e.a ta) cycle n₁ l₁ n₂ l₂ = record { next = a.0; area = a.1 } in
      let pb : Put (only e.b tb) cycle n₂ l₂ n₃ l₃ = record { next = b.0; area = b.1 } in
      let pv : Put (only e.overflow tv) cycle n₃ l₃ n₄ l₄ = record { next = v.0; area = v.1 } in
      let pi : Put (only e.capture ti) cycle n₄ l₄ n₅ l₅ = record { next = i.0; area = i.1 } in
      let k = put_then (put_then (put_then (put_then (put_one p.0 p.1) pa) pb) pv) pi in
      let ma = also-most cycle n₁ e.a ta a.0 in
      let mb = also-most cycle n₂ e.b tb b.0 in
      let mv = also-most cycle n₃ e.overflow tv v.0 in
      let mi = also-most cycle n₄ e.capture ti i.0 in
      rw (h, ← ea, ← eb, ← ev, ← ei) (k.next, k.area, omega (arith, p.0))

-- a tick, from what its parts promise
module _ (s : Setting) (m : Moving) (e : Events) (cycle at : ℕ) (l : List ℕ) {top up count odometer to : ℕ} {d : ℤ} {active : List ℕ} {r : Outputs} {k n : List ℕ} where
  pub tick_is : Turns m.counter.direction → top ≡ top_of s.wave (get_or m.ocr 0 0) → e ≡ events_at s m top → up ≡ raised s e
      → (Wrote (outputs s e (outs_of m)) cycle at l r k) × (r.to ≤ at + 60) → Flagged (flag_entry s up (bit_or m.tifr up)) s.id e cycle r.to k to n
      → count ≡ next_count s.wave m.counter top
      → d ≡ next_direction s.wave (to_z w32 (of_z w32 m.counter.direction)) e.top e.zero → odometer ≡ counted m.counter.odometer 1 → active ≡ cond e.load s.buffer m.ocr
      → Worked (tick s m) cycle at l (record {
        moving = record {
          counter = record { count = count; direction = to_z w32 (of_z w32 d); blocked = false; odometer = odometer };
          ocr = active;
          oc = r.oc;
          drives = r.drives;
          tifr = bit_or m.tifr up;
        };
        to = to;
      }) n
  unfolding tick_by
  tick_is t et ee eu w f ec ed eo ea =
      let happens : events_of s m ≡ e = sym (ee ∙ ap (events_at s m) et) in
      let turns = next-turns s.wave m.counter.direction e.top e.zero t in
      let back : to_z w32 (of_z w32 d) ≡ next_direction s.wave m.counter.direction e.top e.zero = rw (ed, turn-back t) (turn-back turns) in
      let i : Put (outputs s e (outs_of m)).log cycle at l r.to k = record { next = w.0.to; area = w.0.area } in
      let j : Put (flag_log s e up (bit_or m.tifr up)) cycle r.to k to n = record { next = f.0; area = f.1 } in
      let p = rw eu at (put_then i j) in
      rw happens
      (record {
        moving = rw (ec, et, back, eo, ea, w.0.oc, w.0.drives, eu);
        to = p.next;
        area = p.area;
        most = omega (arith, w.1, f.2);
      })

-- a tick whose records went into a log
pub tick-logged : {s : Step} {cycle : ℕ} {before : List ℕ} {r : Ticked} {after : List ℕ} → length before ≡ 110 → Worked s cycle 0 before r after
    → Logs s cycle (record { moving = r.moving; log = record { bytes = after; len = r.to } })
tick-logged n w =
    let k = put-logs n (record { next = w.to; area = w.area }) w.most in
    record { moving = w.moving; bytes = k.0; size = k.1; len = w.most }
