-- What a record log says of pins (02, 2.3).
use Rattle.std.specs.Prelude.{ℕ, zero, suc, ◌+◌, ◌/◌, ◌%◌, Bool, false, cond, ◌||◌, List, [], ◌∷◌, ◌++◌, eqb, length}
use Rattle.records.specs.Records.{record_at, kind_in, cycle_in, body_in}
use Rattle.pieces.specs.declared.Whole.{Whole}
use Rattle.pieces.specs.Pieces.{kind_of, cycle_of}

-- what a pin record says: its pin, its cycle, and the character 0, 1 or z
pub record Change : Type 0 where
  pub pin : ℕ
  pub cycle : ℕ
  pub state : ℕ

-- enable 1 writes the value, enable 0 writes z (02, 2.3), as ASCII
unfoldable pub state_of : ℕ → ℕ
state_of body = cond (eqb (body / 128 % 2) 1) (48 + body / 64 % 2) 122

-- the change in ten bytes: one in a pin record; flag and trigger records (02, 2.3) and those of the watchdog (02, 2.8) are passed over
unfoldable pub change_in : List ℕ → List Change
change_in r = cond (eqb (kind_in r) 0) (record { pin = body_in r / 256; cycle = cycle_in r; state = state_of (body_in r) } ∷ []) []

-- the changes in a log's first n records, in order
unfoldable pub changes_in : List ℕ → ℕ → List Change
changes_in log zero = []
changes_in log (suc n) = changes_in log n ++ change_in (record_at log n)

-- the changes in a log
abbrev pub changes_of : List ℕ → List Change
changes_of log = changes_in log (length log / 10)

-- is a pin among the changes
unfoldable pub has : ℕ → List Change → Bool
has pin [] = false
has pin (c ∷ cs) = eqb c.pin pin || has pin cs

-- the change in a whole record
unfoldable pub change_of : Whole → List Change
change_of w = cond (eqb (kind_of w) 0) (record { pin = w.body / 256; cycle = cycle_of w; state = state_of w.body } ∷ []) []

-- the changes in whole records
unfoldable pub changes : List Whole → List Change
changes [] = []
changes (w ∷ ws) = change_of w ++ changes ws
