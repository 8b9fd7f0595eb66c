-- A log that gives its space back (02, 2.12): what each call answers, the log after it and every byte of the area after it.
use Rattle.std.specs.Prelude.{ℕ, ◌+◌, ◌-◌, ◌*◌, ◌%◌, ◌≤◌, ◌<◌, Bool, cond, List, Result, Ok, Err, eqb, leb, length}
use Rattle.std.proofs.lemmas.List.Edits.{sets}
use Rattle.record_ring.specs.declared.Ring.{Ring}
use Rattle.record_ring.specs.declared.Refusal.{Refusal}
use Rattle.record_ring.specs.declared.Refusal.TheVariants as refusal

-- what the calls keep of a log (02, 2.12: up to 6,000 records, at places 0 to 5,999)
pub record Valid (s : Ring) : Type 0 where
  pub place : s.next < 6000
  pub room : s.held ≤ 6000

-- the empty log (02, 2.12)
abbrev pub empty : Ring
empty = record { next = 0; held = 0 }

-- the refusals' numbers (02, 2.12)
abbrev pub refusal_number : Refusal → ℕ
refusal_number refusal.Full = 19
refusal_number refusal.NotHeld = 20
refusal_number refusal.Area = 21

-- the number that a call answers; 0 for none
abbrev pub answer_number : Result Ring Refusal → ℕ
answer_number (Ok after) = 0
answer_number (Err e) = refusal_number e

-- an area of 60,000 bytes (02, 2.12: else 21, tested first)
abbrev pub fits : List ℕ → Bool
fits area = eqb (length area) 60000

-- adding takes one ten-byte record, to the next place; 19 only when 6,000 are held (02, 2.12)
unfoldable pub added : Ring → List ℕ → List ℕ → Result Ring Refusal × List ℕ
added s area bytes =
    cond (fits area)
    (cond (eqb s.held 6000)
    (Err refusal.Full, area)
    (Ok (record { next = (s.next + 1) % 6000; held = s.held + 1 }), sets area (10 * s.next) bytes))
    (Err refusal.Area, area)

-- releasing drops records, oldest first, since the next place stays; 20 releasing more than are held (02, 2.12)
unfoldable pub released : Ring → List ℕ → ℕ → Result Ring Refusal × List ℕ
released s area count =
    cond (fits area)
    (cond (leb count s.held)
    (Ok (record { next = s.next; held = s.held - count }), area)
    (Err refusal.NotHeld, area))
    (Err refusal.Area, area)

-- the place of the i-th record held, from 0, oldest first (02, 2.12)
unfoldable pub place_of : Ring → ℕ → ℕ
place_of s i = (s.next + (6000 - s.held) + i) % 6000
