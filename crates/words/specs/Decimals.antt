-- Volts (docs/SCRIPT.md, "Pins and the scheduler"): decimals, "rounded once to the nearest f64", and the names of what is no number.
use Rattle.std.specs.Prelude.{ℕ, ◌+◌, ◌*◌, ◌^◌, true, false, cond, ◌&&◌, ◌||◌, List, [], ◌∷◌, ◌++◌, length, take, drop, ◌==◌, nat_le, nat_lt, slice_index, unwrap_or, Float, Result, Ok, Err}
use mathlib.Core.List.{foldl}
use Rattle.std.specs.Str.{bytes_eq}
use Rattle.std.specs.Float.{nan, inf, binary64}
use Rattle.std.specs.Float.Ieee.{round, neg}
use Rattle.words.specs.declared.Unreadable.{Unreadable}
use Rattle.words.specs.declared.Unreadable.TheVariants as unreadable
use Rattle.words.specs.Words.{find_of, and_then}
use Rattle.words.specs.Numbers.{digit_of, well_formed, extended}

-- the f64 nearest to a fraction
unfoldable pub nearest : ℕ → ℕ → Float
unfolding round
nearest n d = round binary64 false n d

-- so many digits over a power of ten; "at most 15 digits", else "number too large"
unfoldable pub quotient_of : ℕ → ℕ → ℕ → Result Float Unreadable
quotient_of digits all places = cond (nat_le all 15) (Ok (nearest digits (10 ^ places))) (Err unreadable.TooLarge)

-- the digits before and after a point, as one number over ten to the places after it
unfoldable pub decimal_of : List ℕ → List ℕ → Result Float Unreadable
decimal_of whole places = quotient_of (extended 10 0 (whole ++ places)) (length (whole ++ places)) (length places)

-- "volts have digits on both sides of a point", else "malformed number"
unfoldable pub plain_of : List ℕ → Result Float Unreadable
plain_of word =
    let point = find_of word 0 46 in
    let whole = take point word in
    let places = drop (point + 1) word in
    cond (well_formed 10 whole && (point == length word || well_formed 10 places)) (decimal_of whole places) (Err unreadable.Malformed)

-- "with an optional sign"
unfoldable pub signed_of : List ℕ → Result Float Unreadable
signed_of word =
    cond (length word == 0) (Err unreadable.Malformed)
    (cond (slice_index word 0 == 43) (plain_of (drop 1 word))
    (cond (slice_index word 0 == 45) (and_then (plain_of (drop 1 word)) (λ v. Ok (neg v))) (plain_of word)))

-- "or as `nan`, `inf`, `-inf`"
unfoldable pub volts_of : List ℕ → Result Float Unreadable
volts_of word =
    cond (bytes_eq word (110 ∷ 97 ∷ 110 ∷ [])) (Ok nan)
    (cond (bytes_eq word (105 ∷ 110 ∷ 102 ∷ [])) (Ok (inf false))
    (cond (bytes_eq word (45 ∷ 105 ∷ 110 ∷ 102 ∷ [])) (Ok (inf true)) (signed_of word)))

-- ---- on the way

-- a number with one more digit, where it has room for it: fifteen digits are all taken
unfoldable pub roomed_of : ℕ → ℕ → ℕ
roomed_of n d = cond (nat_lt n (10 ^ 14)) (n * 10 + d) n

-- a number with a word's digits after its own
unfoldable pub held_of : ℕ → List ℕ → ℕ
held_of n word = foldl (λ (m b : ℕ). roomed_of m (unwrap_or (digit_of 10 b) 0)) n word

unfoldable pub digits_of : List ℕ → ℕ → Result ℕ Unreadable
digits_of word n = cond (well_formed 10 word) (Ok (held_of n word)) (Err unreadable.Malformed)
