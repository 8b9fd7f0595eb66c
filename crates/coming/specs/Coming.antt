-- The next event of a count that rises or falls, reckoned from what no tick changes (01, "Count, direction, next event").
-- The sheet: nothing of its own, it is reckoned from Count and Tick; Laws tells that it is the same.
use Rattle.std.specs.Prelude.{ℕ, ◌+◌, ◌<◌, ◌≤◌, min, Bool, cond, not, ◌&&◌, List, ◌==◌, bit_or, nat_le, slice_index}
use Rattle.wave.specs.declared.count.Counter.{Counter}
use Rattle.wave.specs.Distance.{space, ahead, moved}
use Rattle.wave.specs.Kinds.{P}
use Rattle.scene.specs.declared.state.Scene.{Scene}
use Rattle.coming.specs.declared.Nearest.{Nearest}

-- what the reckoning asks of its numbers
pub record Within (s : Scene) (c : Counter) (top : ℕ) : Type 0 where
  pub count : c.count ≤ s.max
  pub under : top ≤ s.max
  pub most : s.max < 65536

-- ticks before a compare is met, if it lies ahead, else all there are
abbrev pub nearer_in : Bool → Bool → ℕ → ℕ → ℕ → ℕ
nearer_in present down count compare all = min all (ahead present down count compare all)

-- quiet ticks before the next event's
unfoldable pub gap_in : Scene → Bool → ℕ → ℕ → List ℕ → ℕ
gap_in s down count top ocr =
    nearer_in s.pa down count (slice_index ocr 0)
    (nearer_in s.pb down count (slice_index ocr 1)
    (nearer_in s.pc down count (slice_index ocr 2)
    (space down count top s.max)))

-- a tick at a count raises TOV: F at TOP, P and Q at 0, N and C at MAX
unfoldable pub over_in : Scene → Bool → ℕ → ℕ → Bool
over_in s down count top = cond s.fast (count == top) (cond (nat_le P s.kind) (down && count == 0) (count == s.max))

-- the TIFR bits that a tick at a count raises; no match while one is blocked
unfoldable pub bits_in : Scene → Bool → Bool → ℕ → ℕ → List ℕ → ℕ
bits_in s down free count top ocr =
    bit_or (bit_or (bit_or (bit_or
    (cond (over_in s down count top) s.tov 0)
    (cond (free && count == slice_index ocr 0) s.fa 0))
    (cond (free && count == slice_index ocr 1) s.fb 0))
    (cond (not down && count == top) s.capt 0))
    (cond (free && count == slice_index ocr 2) s.fc 0)

-- the next event with a gap before it: a match stays blocked only where there is none
abbrev pub coming_at : Scene → Bool → Counter → ℕ → List ℕ → ℕ → Nearest
coming_at s down c top ocr n = record { ticks = n + 1; flags = bits_in s down (not (c.blocked && n == 0)) (moved down c.count n) top ocr }

-- the next event of a counter, which falls or not
abbrev pub coming_of : Scene → Bool → Counter → ℕ → List ℕ → Nearest
coming_of s down c top ocr = coming_at s down c top ocr (gap_in s down c.count top ocr)
