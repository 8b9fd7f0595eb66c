-- How the count goes: TOP, matches, overflow, loads, the next count and direction (01, "Count, direction, next event").
-- The sheet: "Counter Unit"; "Modes of Operation", from "Normal Mode" to "Phase and Frequency Correct PWM Mode"; "Compare Match Blocking by TCNT0 Write".
use Rattle.std.specs.Prelude.{◌≡◌, ℕ, ◌+◌, ◌-◌, ◌%◌, ◌^◌, Bool, true, false, cond, not, ◌&&◌, ◌||◌, ◌⊎◌, ℤ, pos, negsuc, ◌==◌, nat_le}
use Rattle.wave.specs.declared.kinds.Wave.{Wave}
use Rattle.wave.specs.declared.count.Counter.{Counter}
use Rattle.wave.specs.Kinds.{C, F, P, X, A}

-- the direction is down
abbrev pub negative : ℤ → Bool
negative (pos n) = false
negative (negsuc n) = true

-- plus or minus one
abbrev pub Turns : ℤ → Type 0
Turns d = (d ≡ pos 1) ⊎ (d ≡ negsuc 0)

-- TOP: fixed, OCRnA or ICRn
unfoldable pub top_of : Wave → ℕ → ℕ
top_of w a = cond (w.source == X) w.fixed (cond (w.source == A) a w.icr)

-- the count falls in P and Q with the direction down; N, C and F count up whatever it is
unfoldable pub falls : Wave → Counter → Bool
falls w c = nat_le P w.kind && negative c.direction

-- unless blocked, an active compare equal to the old count matches
unfoldable pub hits : Counter → Bool → ℕ → Bool
hits c present compare = not c.blocked && (present && c.count == compare)

-- N and C raise TOV at MAX, F at TOP, P and Q at 0
unfoldable pub overflows : Wave → Bool → Bool → Bool → Bool
overflows w top zero max = cond (nat_le w.kind C) max (cond (w.kind == F) top zero)

-- F and P load the buffered compares at TOP, Q at 0
unfoldable pub loads : Wave → Bool → Bool → Bool
loads w top zero = cond (nat_le w.kind C) false (cond (nat_le w.kind P) top zero)

-- C and F go from TOP to 0; P and Q turn at TOP and at 0, and stay at 0 if TOP is 0; else a step, up with a wrap at MAX
unfoldable pub next_count : Wave → Counter → ℕ → ℕ
next_count w c top =
    cond (falls w c)
    (cond (c.count == 0) (cond (top == 0) 0 1) (c.count - 1))
    (cond (nat_le C w.kind && c.count == top)
    (cond (nat_le w.kind F) 0 (cond (top == 0) 0 (c.count - 1)))
    (cond (c.count == w.max) 0 (c.count + 1)))

-- P and Q turn to falling at TOP and to rising at 0; the direction survives everything else
unfoldable pub next_direction : Wave → ℤ → Bool → Bool → ℤ
next_direction w d top zero = cond (nat_le P w.kind && top) (negsuc 0) (cond zero (pos 1) d)

-- the odometer n counts on: it wraps at 2^64 (02, 2.7)
abbrev pub counted : ℕ → ℕ → ℕ
counted odometer n = (odometer + n) % 2 ^ 64

-- at TOP: the count stands at it and does not fall
unfoldable pub at_top : Wave → Counter → ℕ → Bool
at_top w c top = not (falls w c) && c.count == top

-- at 0: the count falls and stands there
unfoldable pub at_zero : Wave → Counter → Bool
at_zero w c = falls w c && c.count == 0

-- a match in P and Q counts as falling at TOP, otherwise at 0 as rising, else as the direction says
unfoldable pub rising : Counter → ℕ → Bool
rising c top = not (c.count == top) && (c.count == 0 || not (negative c.direction))
