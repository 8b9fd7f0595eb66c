-- Bytes as a word of hexadecimal digits (docs/SCRIPT.md): two digits for each byte, `-` for none.
use Rattle.std.specs.Prelude.{ℕ, ◌/◌, ◌%◌, cond, List, [], ◌∷◌, length, ◌==◌, nat_le, Result, Ok, Err}
use Rattle.std.specs.Simd.{first_chunks}
use Rattle.std.specs.Str.{bytes_eq}
use Rattle.figures.specs.Figures.{text}
use Rattle.words.specs.Words.{find_of, skip_of, and_then}
use Rattle.words.specs.Numbers.{numeral_of, between}
use Rattle.words.specs.declared.Unreadable.{Unreadable}
use Rattle.words.specs.declared.Unreadable.TheVariants as unreadable

-- the bytes of pairs of digits; two digits are at most ff, so that a pair which cannot be read is malformed
unfoldable pub paired : List (List ℕ) → Result (List ℕ) Unreadable
paired [] = Ok []
paired (p ∷ ps) = and_then (numeral_of p 16 255) (λ n. and_then (paired ps) (λ bytes. Ok (n ∷ bytes)))

-- "An odd number of digits is a malformed number"; more bytes than there is room for "a number too large"
unfoldable pub spelt : List ℕ → ℕ → Result (List ℕ) Unreadable
spelt word room =
    cond (length word % 2 == 0)
    (cond (nat_le (length word / 2) room) (paired (first_chunks 2 (length word / 2) word)) (Err unreadable.TooLarge))
    (Err unreadable.Malformed)

-- "`-` for the empty list"
unfoldable pub word_of : List ℕ → ℕ → Result (List ℕ) Unreadable
word_of word room = cond (bytes_eq word (text "-")) (Ok []) (spelt word room)

-- the next word of a line
unfoldable pub bytes_of : List ℕ → ℕ → ℕ → Result (List ℕ) Unreadable
bytes_of line at room =
    let start = skip_of line at in
    word_of (between line start (find_of line start 32)) room
