-- What reading a word of digits stores in an area of any size: the bytes of its pairs, up to the first that is none.
use Rattle.std.specs.Prelude.{ℕ, ◌/◌, ◌%◌, ◌≤◌, ◌≡◌, cond, List, [], ◌∷◌, ◌++◌, length, drop, ◌==◌, nat_le, Result, Ok, Err, IfOk}
use Rattle.std.specs.Simd.{first_chunks}
use Rattle.std.specs.Str.{bytes_eq}
use Rattle.figures.specs.Figures.{text}
use Rattle.words.specs.Words.{find_of, skip_of, and_then}
use Rattle.words.specs.Numbers.{numeral_of, between}
use Rattle.words.specs.declared.Unreadable.{Unreadable}

-- a byte before others, none where it cannot be read
unfoldable pub onto_read : Result ℕ Unreadable → List ℕ → List ℕ
onto_read (Ok n) bytes = n ∷ bytes
onto_read (Err why) bytes = []

-- the bytes of pairs of digits, up to the first that is no pair
unfoldable pub leading : List (List ℕ) → List ℕ
leading [] = []
leading (p ∷ ps) = onto_read (numeral_of p 16 255) (leading ps)

-- of a word: none where a digit is left over, or where there is no room for all
unfoldable pub stored : List ℕ → ℕ → List ℕ
stored word room = cond (length word % 2 == 0) (cond (nat_le (length word / 2) room) (leading (first_chunks 2 (length word / 2) word)) []) []

-- "`-` for the empty list"
unfoldable pub stored_word : List ℕ → ℕ → List ℕ
stored_word word room = cond (bytes_eq word (text "-")) [] (stored word room)

-- of the next word of a line
unfoldable pub stored_of : List ℕ → ℕ → ℕ → List ℕ
stored_of line at room =
    let start = skip_of line at in
    stored_word (between line start (find_of line start 32)) room

-- how many bytes were read
abbrev pub counted : Result (List ℕ) Unreadable → Result ℕ Unreadable
counted read = and_then read (λ bytes. Ok (length bytes))

-- what the code reads and every byte of the area: what is stored, and then what stood there; all that were read lie in it
pub record Stores (read : Result (List ℕ) Unreadable) (bytes old new : List ℕ) (r : Result ℕ Unreadable) : Type 0 where
  pub counts : r ≡ counted read
  pub out : new ≡ bytes ++ drop (length bytes) old
  pub long : length new ≡ length old
  pub within : IfOk r (λ n. n ≤ length new)
