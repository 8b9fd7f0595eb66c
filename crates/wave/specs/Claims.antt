-- What is claimed of the search for the nearest compare (02, 2.4). Proofs stand apart, in proofs/.
use Rattle.std.specs.Prelude.{◌≡◌, ℕ, ◌+◌, ◌-◌, ◌<◌, ◌≤◌, Bool, true, List, length, ◌==◌, ◌≢◌, slice_index}
use Rattle.wave.specs.declared.kinds.Wave.{Wave}
use Rattle.wave.specs.declared.count.Counter.{Counter}
use Rattle.wave.specs.Distance.{ahead, compares, looked}

-- OneTick: a compare is one tick off, with no quiet tick before its own, exactly where the count stands at it, whichever way it goes
abbrev pub OneTick : Type 0
OneTick = (down : Bool) (count compare : ℕ) → (ahead true down count compare 1 == 0) ≡ (compare == count)

-- of the compares that the timer has the first k were looked at: none before the last of these is one tick off, and fewer than all only where the last is
pub record Looks (count : ℕ) (list : List ℕ) (k : ℕ) : Type 0 where
  pub within : k ≤ length list
  pub before : (i : ℕ) → i + 1 < k → (slice_index list i == count) ≢ true
  pub some : k < length list → 0 < k
  pub last : k < length list → (slice_index list (k - 1) == count) ≡ true

-- Looked: so many does a search look at
abbrev pub Looked : Type 0
Looked = (w : Wave) (c : Counter) (ocr : List ℕ) → Looks c.count (compares w ocr) (looked w c ocr)
