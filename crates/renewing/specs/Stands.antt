-- What is kept of a timer whose scene stands: TOP, and the way of the count.
use Rattle.std.specs.Prelude.{ℕ, Bool, cond, ◌&&◌, List, leb, get_or}
use Rattle.wave.specs.Count.{negative}
use Rattle.wave.specs.declared.count.Counter.{Counter}
use Rattle.wave.specs.Kinds.{P}

-- TOP is OCRnA where it follows that, else as it was
abbrev pub top_in : Bool → ℕ → List ℕ → ℕ
top_in follows top ocr = cond follows (get_or ocr 0 0) top

-- the count falls in P and Q with the direction down (wave's `falls`)
abbrev pub down_in : ℕ → Counter → Bool
down_in kind c = leb P kind && negative c.direction
