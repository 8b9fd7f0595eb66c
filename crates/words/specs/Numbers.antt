-- The numbers of a line (docs/SCRIPT.md): what a row of digits means, or why it means none.
use Rattle.std.specs.Prelude.{ℕ, ◌+◌, ◌-◌, ◌*◌, Bool, true, false, cond, ◌&&◌, List, [], ◌∷◌, take, drop, nat_le, nat_lt, Option, Some, None, is_some, unwrap_or, ok_or, option_and_then, Result, Ok, Err}
use mathlib.Core.List.{foldl}
use Rattle.words.specs.declared.Unreadable.{Unreadable}
use Rattle.words.specs.declared.Unreadable.TheVariants as unreadable
use Rattle.words.specs.declared.Taken.{Taken}
use Rattle.words.specs.Words.{find_of, skip_of, and_then}

-- is a byte one of a range of characters
abbrev pub among : ℕ → ℕ → ℕ → Bool
among low high b = nat_le low b && nat_le b high

-- a number below another
abbrev pub below : ℕ → ℕ → Option ℕ
below radix n = cond (nat_lt n radix) (Some n) None

-- what a digit of a radix is worth, in either case of a to f; a byte that is none is worth 16
unfoldable pub digit_of : ℕ → ℕ → Option ℕ
digit_of radix b = cond (among 48 57 b) (below radix (b - 48)) (cond (among 65 70 b) (below radix (b - 65 + 10)) (cond (among 97 102 b) (below radix (b - 97 + 10)) (below radix 16)))

-- every byte is a digit of the radix
unfoldable pub all_digits : ℕ → List ℕ → Bool
all_digits radix word = foldl (λ (ok : Bool) (b : ℕ). ok && is_some (digit_of radix b)) true word

-- a number with a word's digits after its own
unfoldable pub extended : ℕ → ℕ → List ℕ → ℕ
extended radix n word = foldl (λ (m b : ℕ). m * radix + unwrap_or (digit_of radix b) 0) n word

-- a word has a digit, and nothing else
unfoldable pub well_formed : ℕ → List ℕ → Bool
well_formed radix [] = false
well_formed radix (b ∷ bs) = all_digits radix (b ∷ bs)

-- a number, none where it is too large
unfoldable pub limited : ℕ → ℕ → Option ℕ
limited most n = cond (nat_le n most) (Some n) None

-- a number with one more digit, none once it exceeds the most
unfoldable pub longer_of : Option ℕ → ℕ → ℕ → ℕ → Option ℕ
longer_of value d radix most = option_and_then (λ n. limited most (n * radix + d)) value

-- "a number that is malformed or too large for its place": malformed comes before too large
unfoldable pub numeral_of : List ℕ → ℕ → ℕ → Result ℕ Unreadable
numeral_of word radix most = cond (well_formed radix word) (ok_or (limited most (extended radix 0 word)) unreadable.TooLarge) (Err unreadable.Malformed)

-- a word of digits, 0 to 9 and a to f in either case, as a number; in a radix above 16 too another byte makes it malformed
unfoldable pub digits_numeral_of : List ℕ → ℕ → ℕ → Result ℕ Unreadable
digits_numeral_of word radix most = cond (all_digits 16 word) (numeral_of word radix most) (Err unreadable.Malformed)

-- the word between two places
abbrev pub between : List ℕ → ℕ → ℕ → List ℕ
between text start end = take (end - start) (drop start text)

-- the next word as a number
unfoldable pub next_of : List ℕ → ℕ → ℕ → ℕ → Result Taken Unreadable
next_of text at radix most =
    let start = skip_of text at in
    let end = find_of text start 32 in
    and_then (numeral_of (between text start end) radix most) (λ n. Ok (record { value = n; end = end }))
