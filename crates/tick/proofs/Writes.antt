-- Records written one after the other, and outputs that only add to their log.
use Prim.Native.Nat.{ℕ, ◌+◌, ◌≤◌}
use native.Mathlib.Omega.{arith}
use native.Mathlib.Nat.{add-zero, zero-add}
use mathlib.Core.Path.{◌≡◌, refl, sym, ap, subst, ◌∙◌}
use mathlib.Core.Bool.{Bool, true, false, cond, ◌&&◌, ◌||◌, true≢false}
use mathlib.Core.List.{List, [], ◌∷◌, ◌++◌, append-nil, append_assoc}
use lib.ListN.{length, get_or, set, take, length-append}
use lib.Seq.{sets}
use lib.Dec.{eqb, leb}
use Rattle.records.specs.declared.Entry.{Entry}
use Rattle.records.specs.Records.{record_of, records_of}
use Rattle.records.proofs.Records.{record-length, records-one, records-append, records-then, take-sets}
use Rattle.config.specs.declared.Wire.{Wire}
use Rattle.wave.specs.Kinds.{C}
use Rattle.tick.specs.declared.happenings.Events.{Events}
use Rattle.tick.specs.declared.outputs.Outputs.{Outputs}
use Rattle.tick.specs.declared.setting.Channel.{Channel}
use Rattle.tick.specs.declared.setting.Setting.{Setting}
use Rattle.tick.specs.declared.setting.Drives.{Drives}
use Rattle.tick.specs.Outputs.{Outs, bit, pin_entry, drive_to, recorded, on_pin, applied, acted, level_of, matched, bottomed, matches_of, bottoms_of, matches, bottoms, outputs, begun, Wrote, reapplied, strobed}

-- entries written from a place of the area on: the place after them, and the area
pub record Put (es : List Entry) (cycle at : ℕ) (before : List ℕ) (to : ℕ) (after : List ℕ) : Type 0 where
  pub next : to ≡ at + length (records_of cycle es)
  pub area : after ≡ sets before at (records_of cycle es)

pub put-none : (cycle at : ℕ) (l : List ℕ) → Put [] cycle at l at l
unfolding records_of
put-none cycle at l = record { next = sym (add-zero at); area = refl }

pub put_one : {e : Entry} {cycle at : ℕ} {l : List ℕ} {to : ℕ} {after : List ℕ} → to ≡ at + 10 → after ≡ sets l at (record_of cycle e)
    → Put (e ∷ []) cycle at l to after
put_one {e} {cycle} t a = record { next = rw (records-one cycle e, record-length cycle e) t; area = rw (records-one cycle e) a }

-- entries, then others right after them
pub put_then : {ds es : List Entry} {cycle at mid to : ℕ} {l m n : List ℕ} → Put ds cycle at l mid m → Put es cycle mid m to n
    → Put (ds ++ es) cycle at l to n
put_then {ds} {es} {cycle} {at} {l = l} p q =
    let g = ap length (records-append cycle ds es) ∙ length-append (records_of cycle ds) (records_of cycle es) in
    record {
      next = omega (arith, p.next, q.next);
      area = q.area ∙ rw (p.area, p.next) (records-then l at cycle ds es);
    }

-- from the start of a log of 110 bytes
pub put-logs : {es : List Entry} {cycle : ℕ} {before : List ℕ} {to : ℕ} {after : List ℕ} → length before ≡ 110 → Put es cycle 0 before to after → to ≤ 110
    → (take to after ≡ records_of cycle es) × (length (take to after) ≡ to)
put-logs {es} {cycle} {before} {to} {after} n p h =
    let z : to ≡ length (records_of cycle es) = p.next ∙ zero-add (length (records_of cycle es)) in
    let e : take to after ≡ records_of cycle es = rw (z, p.area) (take-sets before (records_of cycle es) (omega arith)) in
    (e, rw e (sym z))

-- outputs with entries before their log
abbrev pub after : List Entry → Outs → Outs
after l o = record { oc = o.oc; drives = o.drives; log = l ++ o.log }

-- outputs that only add to the log, whatever stands in it
pub record Appends (f : Outs → Outs) : Type 0 where
  pub shifts : (l : List Entry) (o : Outs) → f (after l o) ≡ after l (f o)

after-cond : (b : Bool) (l : List Entry) (x y : Outs) {p q : Outs} → p ≡ after l x → q ≡ after l y → cond b p q ≡ after l (cond b x y)
after-cond true l x y h k = h
after-cond false l x y h k = k

pub then-appends : {f g : Outs → Outs} → Appends f → Appends g → Appends (λ o. g (f o))
then-appends {f} {g} a b = record { shifts = λ l o. ap g (a.shifts l o) ∙ b.shifts l (f o) }

pub recorded-appends : (pin ch enable value : ℕ) → Appends (recorded pin ch enable value)
unfolding recorded
recorded-appends pin ch enable value =
    record {
      shifts = λ l o. after-cond (eqb (get_or o.drives.enables ch 0) enable && eqb (get_or o.drives.values ch 0) value) l _ _ refl
          (rw (append_assoc l o.log (pin_entry pin enable value ∷ [])));
    }

pub on-pin-appends : (w : Wire) (ch enable : ℕ) → Appends (on_pin w ch enable)
unfolding on_pin
on-pin-appends w ch enable = record { shifts = λ l o. after-cond w.present l _ _ ((recorded-appends w.pin ch enable (get_or o.oc ch 0)).shifts l o) refl }

pub acted-appends : (c : Channel) (ch level : ℕ) → Appends (acted c ch level)
unfolding acted
acted-appends c ch level =
    record {
      shifts = λ l o. (on-pin-appends c.wire ch (bit c.enabled)).shifts l (record { oc = set o.oc ch level; drives = o.drives; log = o.log });
    }

pub matched-appends : (kind : ℕ) (c : Channel) (ch : ℕ) (hit rises : Bool) → Appends (matched kind c ch hit rises)
unfolding matched
matched-appends kind c ch hit rises =
    record {
      shifts = λ l o. after-cond (hit && c.enabled) l _ _ ((acted-appends c ch (level_of c kind (get_or o.oc ch 0) rises)).shifts l o) refl;
    }

pub bottomed-appends : (c : Channel) (ch : ℕ) → Appends (bottomed c ch)
unfolding bottomed
bottomed-appends c ch =
    record { shifts = λ l o. after-cond (leb 2 c.comx) l _ _ ((acted-appends c ch (bit (eqb c.comx 2))).shifts l o) refl }

pub bottoms-appends : (s : Setting) → Appends (bottoms s)
unfolding bottoms_of
bottoms-appends s = then-appends (then-appends (bottomed-appends s.a 0) (bottomed-appends s.b 1)) (bottomed-appends s.c 2)

pub matches-appends : (s : Setting) (e : Events) → Appends (matches s e)
unfolding matches_of
matches-appends s e =
    then-appends
    (then-appends (matched-appends s.wave.kind s.a 0 e.a e.rises) (matched-appends s.wave.kind s.b 1 e.b e.rises))
    (matched-appends s.wave.kind s.c 2 e.c e.rises)

pub strobed-appends : (s : Setting) (e : Events) → Appends (strobed s e)
unfolding strobed
strobed-appends s e = record { shifts = λ l o. after-cond (leb s.wave.kind C) l _ _ ((matches-appends s e).shifts l o) refl }

-- nothing done, nothing written
pub wrote_none : (r : Outputs) (cycle : ℕ) (l : List ℕ) → Wrote (begun r) cycle r.to l r l
wrote_none r cycle l =
    let p = put-none cycle r.to l in
    record { oc = refl; drives = refl; to = p.next; area = p.area }

-- outputs, then others that go on from them
pub wrote_then : {f : Outs → Outs} {o : Outs} {cycle at : ℕ} {l m n : List ℕ} {q r : Outputs} → Appends f
    → Wrote o cycle at l q m → Wrote (f (begun q)) cycle q.to m r n → Wrote (f o) cycle at l r n
wrote_then {f} {o} {cycle} {at} {l} {m} {n} {q} {r} a v w =
    let same : after o.log (begun q) ≡ o = rw (v.oc, v.drives, append-nil o.log) in
    let e : after o.log (f (begun q)) ≡ f o = sym (a.shifts o.log (begun q)) ∙ ap f same in
    let i : Put o.log cycle at l q.to m = record { next = v.to; area = v.area } in
    let j : Put (f (begun q)).log cycle q.to m r.to n = record { next = w.to; area = w.area } in
    let k = put_then i j in
    let x : Wrote (after o.log (f (begun q))) cycle at l r n = record { oc = w.oc; drives = w.drives; to = k.next; area = k.area } in
    rw e at x

-- a drive that is the one last recorded, and one that is not
module _ (r : Outputs) (pin ch enable value cycle : ℕ) (l : List ℕ) where
  abbrev pub Same : Bool
  Same = eqb (get_or r.drives.enables ch 0) enable && eqb (get_or r.drives.values ch 0) value

  pub wrote-same : Same ≡ true → Wrote (recorded pin ch enable value (begun r)) cycle r.to l r l
  unfolding recorded
  wrote-same h = rw h (wrote_none r cycle l)

  pub wrote-new : {d : Drives} {e : Entry} {to : ℕ} {n : List ℕ} → Same ≡ false → d ≡ drive_to r.drives ch enable value → e ≡ pin_entry pin enable value
      → (to ≡ r.to + 10) × (n ≡ sets l r.to (record_of cycle e))
      → Wrote (recorded pin ch enable value (begun r)) cycle r.to l (record { oc = r.oc; drives = d; to = to }) n
  unfolding recorded
  wrote-new h d e p =
      let k = put_one p.0 (rw e at p.1) in
      rw h (record { oc = refl; drives = d; to = k.next; area = k.area })

-- three matches in a row, three outputs at BOTTOM, and three drives reapplied
module _ (a b c : Channel) (r₀ : Outputs) {cycle : ℕ} {r₁ r₂ r₃ : Outputs} {l₀ l₁ l₂ l₃ : List ℕ} where
  pub matches-wrote : (kind : ℕ) (e : Events) → Wrote (matched kind a 0 e.a e.rises (begun r₀)) cycle r₀.to l₀ r₁ l₁
      → Wrote (matched kind b 1 e.b e.rises (begun r₁)) cycle r₁.to l₁ r₂ l₂
      → Wrote (matched kind c 2 e.c e.rises (begun r₂)) cycle r₂.to l₂ r₃ l₃
      → Wrote (matches_of kind a b c e (begun r₀)) cycle r₀.to l₀ r₃ l₃
  unfolding matches_of
  matches-wrote kind e u v w =
      wrote_then (matched-appends kind c 2 e.c e.rises) (wrote_then (matched-appends kind b 1 e.b e.rises) u v) w

  pub bottoms-wrote : Wrote (bottomed a 0 (begun r₀)) cycle r₀.to l₀ r₁ l₁ → Wrote (bottomed b 1 (begun r₁)) cycle r₁.to l₁ r₂ l₂
      → Wrote (bottomed c 2 (begun r₂)) cycle r₂.to l₂ r₃ l₃ → Wrote (bottoms_of a b c (begun r₀)) cycle r₀.to l₀ r₃ l₃
  unfolding bottoms_of
  bottoms-wrote u v w = wrote_then (bottomed-appends c 2) (wrote_then (bottomed-appends b 1) u v) w

pub reapplied-wrote : (s : Setting) (r₀ : Outputs) {cycle : ℕ} {r₁ r₂ r₃ : Outputs} {l₀ l₁ l₂ l₃ : List ℕ}
    → Wrote (applied s.a 0 (begun r₀)) cycle r₀.to l₀ r₁ l₁ → Wrote (applied s.b 1 (begun r₁)) cycle r₁.to l₁ r₂ l₂
    → Wrote (applied s.c 2 (begun r₂)) cycle r₂.to l₂ r₃ l₃ → Wrote (reapplied s (begun r₀)) cycle r₀.to l₀ r₃ l₃
unfolding reapplied
reapplied-wrote s r₀ u v w =
    wrote_then (on-pin-appends s.c.wire 2 (bit s.c.enabled)) (wrote_then (on-pin-appends s.b.wire 1 (bit s.b.enabled)) u v) w

-- the outputs after a tick, at BOTTOM and elsewhere
module _ (s : Setting) (e : Events) (o : Outs) {cycle at : ℕ} {l m : List ℕ} {q : Outputs} where
  pub outputs-bottom : {n : List ℕ} {r : Outputs} → e.bottom ≡ true → Wrote (matches s e o) cycle at l q m
      → Wrote (bottoms s (begun q)) cycle q.to m r n → Wrote (outputs s e o) cycle at l r n
  unfolding outputs
  outputs-bottom {n} {r} h v w =
      subst (λ (b : Bool). Wrote (cond b (bottoms s (matches s e o)) (matches s e o)) cycle at l r n) (sym h) (wrote_then (bottoms-appends s) v w)

  pub outputs-else : e.bottom ≡ false → Wrote (matches s e o) cycle at l q m → Wrote (outputs s e o) cycle at l q m
  unfolding outputs
  outputs-else h v = subst (λ (b : Bool). Wrote (cond b (bottoms s (matches s e o)) (matches s e o)) cycle at l q m) (sym h) v

-- where no match acts and the count does not go to BOTTOM, nothing is done
no-match : (p q r : Bool) → p || q || r ≡ false → (p ≡ false) × (q ≡ false) × (r ≡ false)
no-match false false false h = (refl, refl, refl)
no-match true q r h = absurd (true≢false h)
no-match false true r h = absurd (true≢false h)
no-match false false true h = absurd (true≢false h)

pub outputs-none : (s : Setting) (e : Events) (o : Outs) → e.bottom ≡ false → (e.a && s.a.enabled) || (e.b && s.b.enabled) || (e.c && s.c.enabled) ≡ false → outputs s e o ≡ o
unfolding outputs matches_of matched
outputs-none s e o h k = let z = no-match (e.a && s.a.enabled) (e.b && s.b.enabled) (e.c && s.c.enabled) k in simp (h, z.0, z.1, z.2)
