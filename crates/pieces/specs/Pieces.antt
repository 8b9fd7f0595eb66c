-- A log that comes in pieces (02, 2.10): what is kept of a record across a cut, and the records that bytes make whole.
use Rattle.std.specs.Prelude.{ℕ, zero, suc, ◌+◌, ◌*◌, ◌/◌, ◌%◌, ◌<◌, ◌^◌, ◌≡◌, Bool, cond, List, [], ◌∷◌, ◌++◌, eqb, ltb, leb, get_or, take, drop, Option, None, Some}
use Rattle.records.specs.Records.{record_at, number_of}
use Rattle.pieces.specs.declared.Part.{Part}
use Rattle.pieces.specs.declared.Whole.{Whole}
use Rattle.pieces.specs.declared.Records.{Records}
use Rattle.pieces.specs.declared.Kind.{Kind}
use Rattle.pieces.specs.declared.Kind.TheVariants as kind

-- before a log's first byte
abbrev pub start : Part
start = record { have = 0; head = 0; body = 0 }

-- is no record begun
abbrev pub between : Part → Bool
between p = eqb p.have 0

-- a kind's number
abbrev pub number_of_kind : Kind → ℕ
number_of_kind kind.Pin = 0
number_of_kind kind.Flag = 1
number_of_kind kind.Trigger = 2
number_of_kind kind.Watchdog = 3

-- the number of a record's kind: the first two bits
abbrev pub kind_of : Whole → ℕ
kind_of w = w.head / 2 ^ 62

-- a record's cycle: the next 62
abbrev pub cycle_of : Whole → ℕ
cycle_of w = w.head % 2 ^ 62

-- the last ten bytes as a record
abbrev pub inside : Part → Whole
inside p = record { head = p.head; body = p.body }

-- how many bytes of a record there are with one more; the tenth ends it
abbrev pub begun : ℕ → ℕ
begun have = cond (ltb have 9) (have + 1) 0

-- one byte more: the ten bytes move up by one
unfoldable pub shifted : Part → ℕ → Part
shifted p b = record { have = begun p.have; head = p.head % 2 ^ 56 * 256 + p.body / 256; body = p.body % 256 * 256 + b }

-- what is kept after more bytes
unfoldable pub part_after : Part → List ℕ → Part
part_after p [] = p
part_after p (b ∷ bs) = part_after (shifted p b) bs

-- a record before others, where there is one
abbrev pub ahead : Bool → Whole → List Whole → List Whole
ahead there w ws = cond there (w ∷ ws) ws

-- the records that more bytes make whole, in order
unfoldable pub wholes : Part → List ℕ → List Whole
wholes p [] = []
wholes p (b ∷ bs) = ahead (leb 9 p.have) (inside (shifted p b)) (wholes (shifted p b) bs)

-- ten bytes are a record where none is begun, and leave none begun
pub record IsRecord (bytes : List ℕ) (after : Part) : Type 0 where
  pub wholes : (p : Part) → p.have ≡ 0 → wholes p bytes ≡ inside after ∷ []
  pub part : (p : Part) → p.have ≡ 0 → part_after p bytes ≡ after

-- the next record of a piece, and what is left gives the others
pub record TakesOne (r : Records) (w : Whole) (t : Records) : Type 0 where
  pub wholes : wholes r.part r.rest.now ≡ w ∷ wholes t.part t.rest.now
  pub part : part_after r.part r.rest.now ≡ part_after t.part t.rest.now

-- no record is left, and all the bytes are taken
pub record TakesRest (r t : Records) : Type 0 where
  pub wholes : wholes r.part r.rest.now ≡ []
  pub part : part_after r.part r.rest.now ≡ t.part
  pub rest : t.rest.now ≡ []

-- a call for the next record
abbrev pub Takes : Records → Option Whole → Records → Type 0
Takes r (Some w) t = TakesOne r w t
Takes r None t = TakesRest r t

-- the record in ten bytes
abbrev pub whole_in : List ℕ → Whole
whole_in r = record { head = number_of (take 8 r); body = number_of (drop 8 r) }

-- a log's first n records, in order
unfoldable pub wholes_in : List ℕ → ℕ → List Whole
wholes_in log zero = []
wholes_in log (suc n) = wholes_in log n ++ whole_in (record_at log n) ∷ []

-- what every list of bytes is
abbrev pub Bytes : List ℕ → Type 0
Bytes l = (k : ℕ) → get_or l k 0 < 256

-- pieces one after the other
unfoldable pub joined : List (List ℕ) → List ℕ
joined [] = []
joined (piece ∷ pieces) = piece ++ joined pieces
