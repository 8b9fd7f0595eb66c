-- What is proved of a log beside the functions (02, 2.12): over any list of calls from the empty log, on one area that nobody else writes.
use Rattle.std.specs.Prelude.{ℕ, ◌+◌, ◌%◌, ◌≤◌, ◌<◌, ◌≡◌, cond, List, [], ◌∷◌, ◌++◌, Result, eqb, leb, length, get_or, drop}
use Rattle.std.specs.Result.{result_unwrap_or}
use Rattle.record_ring.specs.declared.Ring.{Ring}
use Rattle.record_ring.specs.declared.Refusal.{Refusal}
use Rattle.records.specs.Records.{record_at}
use Rattle.record_ring.specs.Log.{empty, answer_number, added, released, place_of, Valid}

-- a call of each method; adding takes one ten-byte record
pub data Call : Type 0 where
  add : (bytes : List ℕ) → length bytes ≡ 10 → Call
  release : ℕ → Call

-- ---- the log

-- a log and the area that its records lie in
pub record Soak : Type 0 where
  pub ring : Ring
  pub area : List ℕ

-- an empty log, and an area as it is found
abbrev pub fresh : List ℕ → Soak
fresh area = record { ring = empty; area = area }

-- what a call answers, and the area after it
unfoldable pub answered : Soak → Call → Result Ring Refusal × List ℕ
answered t (add bytes ten) = added t.ring t.area bytes
answered t (release count) = released t.ring t.area count

-- the log and its area after one call; a refused one leaves the log as it was
abbrev pub after : Soak → Call → Soak
after t call = record { ring = result_unwrap_or (answered t call).0 t.ring; area = (answered t call).1 }

-- the log and its area after a list of calls
unfoldable pub run : Soak → List Call → Soak
run t [] = t
run t (call ∷ calls) = run (after t call) calls

-- the numbers that the calls are answered
unfoldable pub numbers : Soak → List Call → List ℕ
numbers t [] = []
numbers t (call ∷ calls) = answer_number (answered t call).0 ∷ numbers (after t call) calls

-- ---- what it is held to: a plain queue and two counts, fed the area's size and the calls, nothing else

pub record Account : Type 0 where
  -- each record added, in the order of the calls
  pub added : List (List ℕ)
  -- how many records were released
  pub released : ℕ
  -- the records still held, oldest first
  pub queue : List (List ℕ)

-- before any call
abbrev pub nothing : Account
nothing = record { added = []; released = 0; queue = [] }

-- 0, or the refusal's number: 21 first, 19 adding when 6,000 are held, 20 releasing more than are held
unfoldable pub number_of : ℕ → Account → Call → ℕ
number_of size k (add bytes ten) = cond (eqb size 60000) (cond (eqb (length k.queue) 6000) 19 0) 21
number_of size k (release count) = cond (eqb size 60000) (cond (leb count (length k.queue)) 0 20) 21

-- an accepted call: adding appends, releasing drops the first
unfoldable pub booked : Account → Call → Account
booked k (add bytes ten) = record { added = k.added ++ bytes ∷ []; released = k.released; queue = k.queue ++ bytes ∷ [] }
booked k (release count) = record { added = k.added; released = k.released + count; queue = drop count k.queue }

-- one call; a refused one changes nothing
abbrev pub noted : ℕ → Account → Call → Account
noted size k call = cond (eqb (number_of size k call) 0) (booked k call) k

-- the account of a list of calls
unfoldable pub account : ℕ → Account → List Call → Account
account size k [] = k
account size k (call ∷ calls) = account size (noted size k call) calls

-- the numbers that the calls are to be answered
unfoldable pub numbers_of : ℕ → Account → List Call → List ℕ
numbers_of size k [] = []
numbers_of size k (call ∷ calls) = number_of size k call ∷ numbers_of size (noted size k call) calls

-- ---- the claims

-- from the empty log on
abbrev pub soaked : List ℕ → List Call → Soak
soaked area calls = run (fresh area) calls

-- its plain account
abbrev pub accounted : List ℕ → List Call → Account
accounted area calls = account (length area) nothing calls

-- the calls are answered, and refused, as the plain queue has it
abbrev pub Answers : Type 0
Answers = (area : List ℕ) (calls : List Call) → numbers (fresh area) calls ≡ numbers_of (length area) nothing calls

-- the records held are those of the queue: as many, and the bytes of each at the place of its turn
pub record Kept (t : Soak) (k : Account) : Type 0 where
  pub valid : Valid t.ring
  pub held : t.ring.held ≡ length k.queue
  pub bytes : (i : ℕ) → i < t.ring.held → record_at t.area (place_of t.ring i) ≡ get_or k.queue i []

-- held records keep their order and bytes
abbrev pub Keeps : Type 0
Keeps = (area : List ℕ) (calls : List Call) → Kept (soaked area calls) (accounted area calls)

-- the next record's place is its number mod 6,000, and the i-th added, from 0, stands at place i mod 6,000 while it is held
pub record Standing (t : Soak) (k : Account) : Type 0 where
  pub next : t.ring.next ≡ length k.added % 6000
  pub stands : (i : ℕ) → k.released ≤ i → i < length k.added → record_at t.area (i % 6000) ≡ get_or k.added i []

-- each record stands where the shell reads it
abbrev pub Placed : Type 0
Placed = (area : List ℕ) (calls : List Call) → Standing (soaked area calls) (accounted area calls)

-- over a whole run, records added equal records released plus records still held
abbrev pub Accounts : Type 0
Accounts =
    (area : List ℕ) (calls : List Call)
    → length (accounted area calls).added ≡ (accounted area calls).released + (soaked area calls).ring.held

-- a history of the public functions: each on the log and the area as the one before left them, each with its promise
pub data History : Soak → List Call → List ℕ → Soak → Type 0 where
  none : (t : Soak) → History t [] [] t
  called : (t : Soak) (call : Call) (r : Result Ring Refusal) (area : List ℕ) (calls : List Call) (ns : List ℕ) (u : Soak)
      → (r, area) ≡ answered t call → History (record { ring = result_unwrap_or r t.ring; area = area }) calls ns u
      → History t (call ∷ calls) (answer_number r ∷ ns) u

-- the code is that run
abbrev pub CodeIsRun : Type 0
CodeIsRun =
    (area : List ℕ) (calls : List Call) (ns : List ℕ) (u : Soak)
    → History (fresh area) calls ns u → (ns ≡ numbers (fresh area) calls) × (u ≡ soaked area calls)

-- a reading: two records added, three released, which is refused, and one
abbrev pub Reading : Type 0
Reading =
    (area a b : List ℕ) (p : length a ≡ 10) (q : length b ≡ 10) → length area ≡ 60000
    → (numbers (fresh area) (add a p ∷ add b q ∷ release 3 ∷ release 1 ∷ []) ≡ 0 ∷ 0 ∷ 20 ∷ 0 ∷ [])
    × (record_at (soaked area (add a p ∷ add b q ∷ release 3 ∷ release 1 ∷ [])).area 1 ≡ b)
