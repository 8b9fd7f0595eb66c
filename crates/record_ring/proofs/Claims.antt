-- The claims of specs/Claims.antt: the log and the plain account stay tied, by induction over the calls.
use Prim.Native.Nat.{ℕ, ◌+◌, ◌-◌, ◌*◌, ◌%◌, ◌≤◌, ◌<◌}
use native.Mathlib.Omega.{arith}
use native.Mathlib.Decide.{dec_lt}
use mathlib.Core.Path.{◌≡◌, refl, sym, ap, ap₂, ◌∙◌}
use mathlib.Core.List.{List, [], ◌∷◌, ◌++◌}
use lib.ListN.{length, get_or, drop, length-append, get_or-append}
use lib.Seq.{sets, length-sets, get_or-append_seam, get_or-drop, drop-drop, drop-append-le}
use Rattle.std.proofs.lemmas.Grind.{common_steps}
use Rattle.records.specs.Records.{record_at}
use Rattle.record_ring.specs.Log.{answer_number, added, released, place_of, Valid}
use Rattle.record_ring.specs.Claims.{Call, add, release, Soak, fresh, answered, after, run, numbers, Account, nothing, number_of, booked, noted, account, numbers_of, soaked, accounted, Answers, Keeps, Placed, Accounts, History, none, called, CodeIsRun, Reading}
use Rattle.record_ring.proofs.Places.{at_place, elsewhere}

-- what ties a log and its area to the account of the same calls
record Tied (size : ℕ) (t : Soak) (k : Account) : Type 0 where
  valid : Valid t.ring
  sized : length t.area ≡ size
  next : t.ring.next ≡ length k.added % 6000
  sum : length k.added ≡ k.released + t.ring.held
  queue : k.queue ≡ drop k.released k.added
  stands : (i : ℕ) → k.released ≤ i → i < length k.added → record_at t.area (i % 6000) ≡ get_or k.added i []

-- as many are held as the queue has
queued : {size : ℕ} {t : Soak} {k : Account} → Tied size t k → length k.queue ≡ t.ring.held
queued w = grind (arith, common_steps)

-- ---- an accepted call

module _ {size : ℕ} {t : Soak} {k : Account} (w : Tied size t k) where
  -- adding while a place is free, in an area of 60,000 bytes
  tied-add : (bytes : List ℕ) (ten : length bytes ≡ 10) → size ≡ 60000 → (t.ring.held ≡ 6000 → ⊥)
      → Tied size (record { ring = record { next = (t.ring.next + 1) % 6000; held = t.ring.held + 1 }; area = sets t.area (10 * t.ring.next) bytes }) (booked k (add bytes ten))
  unfolding booked
  tied-add bytes ten wide free =
      let v = w.valid in
      let m = w.next in
      let s = w.sum in
      let z = w.sized in
      let more : length (k.added ++ bytes ∷ []) ≡ length k.added + 1 = length-append k.added (bytes ∷ []) in
      record {
        valid = record { place = omega arith; room = omega (arith, free) };
        sized = length-sets t.area (10 * t.ring.next) bytes ∙ z;
        next = rw more (omega arith);
        sum = rw more (omega arith);
        queue = ap (λ (q : List (List ℕ)). q ++ bytes ∷ []) w.queue ∙ sym (drop-append-le k.released k.added (bytes ∷ []) (omega arith));
        stands = λ i l u. place i l (dec_lt i (length k.added)) (omega arith);
      }
    where
      place : (i : ℕ) → k.released ≤ i → Dec (i < length k.added) → i < length k.added + 1
          → record_at (sets t.area (10 * t.ring.next) bytes) (i % 6000) ≡ get_or (k.added ++ bytes ∷ []) i []
      place i l (yes u) h =
          let v = w.valid in
          let m = w.next in
          let s = w.sum in
          let z = w.sized in
          elsewhere t.area bytes ten t.ring.next (omega arith) (i % 6000) (λ e. omega (arith, free))
          ∙ w.stands i l u
          ∙ sym (get_or-append k.added (bytes ∷ []) [] i u)
      place i l (no u) h =
          let v = w.valid in
          let z = w.sized in
          let m = w.next in
          let e : i ≡ length k.added = omega (arith, u) in
          let r = at_place t.area bytes ten t.ring.next (omega arith) in
          let g = get_or-append_seam k.added bytes [] [] in
          cc

  -- releasing no more than are held
  tied-release : (count : ℕ) → count ≤ t.ring.held
      → Tied size (record { ring = record { next = t.ring.next; held = t.ring.held - count }; area = t.area }) (booked k (release count))
  unfolding booked
  tied-release count h =
      let v = w.valid in
      let s = w.sum in
      record {
        valid = record { place = v.place; room = omega arith };
        sized = w.sized;
        next = w.next;
        sum = omega arith;
        queue = ap (drop count) w.queue ∙ drop-drop count k.released k.added;
        stands = λ i l u. w.stands i (omega arith) u;
      }

-- ---- any call

-- it is answered as the queue has it, and the tie is kept
abbrev Steps : ℕ → Soak → Account → Call → Type 0
Steps size t k call = (answer_number (answered t call).0 ≡ number_of size k call) × Tied size (after t call) (noted size k call)

step : {size : ℕ} {t : Soak} {k : Account} → Tied size t k → (call : Call) → Steps size t k call
unfolding answered added released number_of
step {size} {t} {k} w (add bytes ten) =
    let q = queued w in
    let z = w.sized in
    let a = tied-add w bytes ten in
    (grind (arith, common_steps), grind (arith, common_steps))
step {size} {t} {k} w (release count) =
    let q = queued w in
    let z = w.sized in
    let a = tied-release w count in
    (grind (arith, common_steps), grind (arith, common_steps))

-- ---- any list

runs : {size : ℕ} {t : Soak} {k : Account} → Tied size t k → (calls : List Call) → Tied size (run t calls) (account size k calls)
unfolding run account
runs w [] = w
runs {size} {t} {k} w (call ∷ calls) = runs {t = after t call} {k = noted size k call} (step w call).1 calls

alike : {size : ℕ} {t : Soak} {k : Account} → Tied size t k → (calls : List Call) → numbers t calls ≡ numbers_of size k calls
unfolding numbers numbers_of
alike w [] = refl
alike {size} {t} {k} w (call ∷ calls) = let s = step w call in ap₂ (λ (n : ℕ) (ns : List ℕ). n ∷ ns) s.0 (alike {t = after t call} {k = noted size k call} s.1 calls)

histories : {t u : Soak} {calls : List Call} {ns : List ℕ} → History t calls ns u → (ns ≡ numbers t calls) × (u ≡ run t calls)
unfolding run numbers
histories (none t) = (refl, refl)
histories (called t call r area calls ns u e h) = let i = histories h in (grind (arith, common_steps), grind (arith, common_steps))

begins : (area : List ℕ) → Tied (length area) (fresh area) nothing
begins area =
    record { valid = grind (arith, common_steps); sized = refl; next = refl; sum = refl; queue = refl; stands = λ i l u. absurd (omega arith) }

-- from the empty log on
always : (area : List ℕ) (calls : List Call) → Tied (length area) (soaked area calls) (accounted area calls)
always area calls = runs (begins area) calls

-- ---- the claims

pub answers : Answers
answers area calls = alike (begins area) calls

-- the i-th held is the i-th added after those released
kept : {size : ℕ} {t : Soak} {k : Account} → Tied size t k → (i : ℕ) → i < t.ring.held
    → record_at t.area (place_of t.ring i) ≡ get_or k.queue i []
unfolding place_of
kept {size} {t} {k} w i h =
    let v = w.valid in
    let m = w.next in
    let s = w.sum in
    let e : place_of t.ring i ≡ (k.released + i) % 6000 = omega arith in
    ap (record_at t.area) e
    ∙ w.stands (k.released + i) (omega arith) (omega arith)
    ∙ sym (ap (λ (q : List (List ℕ)). get_or q i []) w.queue ∙ get_or-drop k.released k.added i [])

pub keeps : Keeps
keeps area calls = let w = always area calls in record { valid = w.valid; held = sym (queued w); bytes = kept w }

pub placed : Placed
placed area calls = let w = always area calls in record { next = w.next; stands = w.stands }

pub accounts : Accounts
accounts area calls = (always area calls).sum

pub code-is-run : CodeIsRun
code-is-run area calls ns u h = histories h

pub reading : Reading
unfolding account numbers_of number_of booked
reading area a b p q wide =
    let calls : List Call = add a p ∷ add b q ∷ release 3 ∷ release 1 ∷ [] in
    let e : accounted area calls ≡ record { added = a ∷ b ∷ []; released = 1; queue = b ∷ [] } = simp wide in
    let l : (accounted area calls).released ≤ 1 = simp wide (omega arith) in
    let u : 1 < length (accounted area calls).added = simp wide (omega arith) in
    (answers area calls ∙ simp wide, (placed area calls).stands 1 l u ∙ ap (λ (k : Account). get_or k.added 1 []) e)
