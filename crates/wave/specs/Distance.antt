-- Quiet ticks ahead, and the count after them (01, "Count, direction, next event").
-- The sheet: nothing of its own, it is reckoned from Count.
use Rattle.std.specs.Prelude.{ℕ, suc, ◌+◌, ◌-◌, min, Bool, cond, ◌&&◌, List, [], ◌∷◌, ◌==◌, nat_le, slice_index}
use Rattle.wave.specs.declared.kinds.Wave.{Wave}
use Rattle.wave.specs.declared.count.Counter.{Counter}
use Rattle.wave.specs.declared.distance.Search.{Search}
use Rattle.wave.specs.Count.{falls, top_of, counted}

-- ticks before the count turns or wraps: to 0 falling, else to TOP, or to MAX from above TOP
unfoldable pub space : Bool → ℕ → ℕ → ℕ → ℕ
space down count top max = cond down count (cond (nat_le count top) (top - count) (max - count))

-- ticks before a compare that lies ahead is met, else all there are
unfoldable pub ahead : Bool → Bool → ℕ → ℕ → ℕ → ℕ
ahead present down count compare all =
    cond present
    (cond down (cond (nat_le compare count) (count - compare) all) (cond (nat_le count compare) (compare - count) all))
    all

-- the quiet ticks before the next event's
unfoldable pub gap_at : Wave → Bool → ℕ → List ℕ → ℕ → ℕ
gap_at w down count ocr all =
    min (min all (ahead w.a down count (slice_index ocr 0) all))
    (min (ahead w.b down count (slice_index ocr 1) all) (ahead w.c down count (slice_index ocr 2) all))

-- the same, from the counter and the active compares
unfoldable pub gap : Wave → Counter → List ℕ → ℕ
gap w c ocr = gap_at w (falls w c) c.count ocr (space (falls w c) c.count (top_of w (slice_index ocr 0)) w.max)

-- a gap that the way to a compare behind the count cannot be taken for
abbrev pub reach : Bool → ℕ → ℕ
reach down count = cond down count (4294967295 - count)

-- a compare before others, if the timer has it
abbrev pub having : Bool → ℕ → List ℕ → List ℕ
having present compare rest = cond present (compare ∷ rest) rest

-- the compares that the timer has, in the order A, B, C (02, 2.4)
unfoldable pub compares : Wave → List ℕ → List ℕ
compares w ocr = having w.a (slice_index ocr 0) (having w.b (slice_index ocr 1) (having w.c (slice_index ocr 2) []))

-- how many of them a search looks at: up to the first one tick off, where the count stands at it, blocked or not; else all
unfoldable pub looked_at : ℕ → List ℕ → ℕ
looked_at count [] = 0
looked_at count (compare ∷ rest) = cond (compare == count) 1 (suc (looked_at count rest))

-- the same, from the counter and the active compares
unfoldable pub looked : Wave → Counter → List ℕ → ℕ
looked w c ocr = looked_at c.count (compares w ocr)

-- what a search finds
abbrev pub sought_at : Wave → Bool → ℕ → List ℕ → ℕ → Search
sought_at w down count ocr all = record { gap = gap_at w down count ocr all; looked = looked_at count (compares w ocr) }

abbrev pub searched : Wave → Counter → List ℕ → Search
searched w c ocr = record { gap = gap w c ocr; looked = looked w c ocr }

-- the count n quiet ticks on
unfoldable pub moved : Bool → ℕ → ℕ → ℕ
moved down count n = cond down (count - n) (count + n)

-- n quiet ticks in one step; none leave the block as it was
abbrev pub skipped : Wave → ℕ → Counter → Counter
skipped w n c = record { count = moved (falls w c) c.count n; direction = c.direction; blocked = c.blocked && (n == 0); odometer = counted c.odometer n }
