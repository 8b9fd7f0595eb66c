-- Answers as bytes (docs/SCRIPT.md), put one after the other on a page. A page that is full takes no more.
use Rattle.std.specs.Prelude.{ℕ, zero, suc, ◌+◌, ◌/◌, ◌%◌, ◌≡◌, Bool, cond, ltb, length}
use mathlib.Core.List.{List, [], ◌∷◌, ◌++◌, foldl}
use Rattle.words.specs.declared.Unreadable.{Unreadable}
use Rattle.words.specs.declared.Unreadable.TheVariants as unreadable
use Rattle.figures.specs.Figures.{text, number}

-- ---- pages

-- the bytes of a page
abbrev pub size : ℕ
size = 32768

-- one byte more behind the others, unless the page is full
unfoldable pub put : List ℕ → ℕ → List ℕ
put page b = cond (ltb (length page) size) (page ++ b ∷ []) page

-- some bytes more
abbrev pub puts : List ℕ → List ℕ → List ℕ
puts page bytes = foldl put page bytes

-- what a page is after some bytes more
pub record Puts (old new bytes : List ℕ) : Type 0 where
  pub after : new ≡ puts old bytes

-- ---- numbers

-- the ASCII code of a digit below 16: `0` to `9`, then `a` to `f`
abbrev pub hex_digit_ascii : ℕ → ℕ
hex_digit_ascii d = cond (ltb d 10) (48 + d) (87 + d)

-- the last k digits of a number in a base, the most significant first
abbrev pub last_digits : ℕ → ℕ → ℕ → List ℕ
last_digits b zero n = []
last_digits b (suc k) n = last_digits b k (n / b) ++ (hex_digit_ascii (n % b) ∷ [])

-- "two lower-case hexadecimal digits"
unfoldable pub pair : ℕ → List ℕ
pair b = last_digits 16 2 b

-- "the sixteen hexadecimal digits of the f64"
unfoldable pub pattern : ℕ → List ℕ
pattern n = last_digits 16 16 n

-- a bit
unfoldable pub flag : Bool → List ℕ
flag b = cond b 49 48 ∷ []

-- ---- what cannot be read

-- "`error line L: WHY`": the words of each reason
unfoldable pub reason_of : Unreadable → List ℕ
reason_of unreadable.UnknownCommand = text ": unknown command"
reason_of unreadable.UnknownKey = text ": unknown key"
reason_of unreadable.UnknownName = text ": unknown name"
reason_of unreadable.MissingWord = text ": missing word"
reason_of unreadable.ExtraWord = text ": extra word"
reason_of unreadable.Malformed = text ": malformed number"
reason_of unreadable.TooLarge = text ": number too large"
reason_of unreadable.TooLong = text ": line too long"
reason_of unreadable.NotOpened = text ": file not opened"

-- the line
unfoldable pub unreadable_of : ℕ → Unreadable → List ℕ
unreadable_of nth why = text "error line " ++ number nth ++ reason_of why
