-- The words of a line (docs/SCRIPT.md): what stands between spaces, where a word begins and ends, and its place in a list of names.
use Rattle.std.specs.Prelude.{ℕ, suc, ◌+◌, min, Bool, true, false, cond, not, List, [], ◌∷◌, length, take, drop, ◌==◌, nat_lt, ⊤, Option, None, option_map, Result, Ok, Err}
use Rattle.std.specs.List.{position_from}
use Rattle.std.specs.Str.{bytes_eq}
use Rattle.words.specs.declared.Unreadable.{Unreadable}
use Rattle.words.specs.declared.Unreadable.TheVariants as unreadable
use Rattle.words.specs.declared.Pair.{Pair}

-- what follows of a value, where there is one: a step that `?` goes on with
unfoldable pub and_then : {A B E : Type 0} → Result A E → (A → Result B E) → Result B E
and_then (Ok x) f = f x
and_then (Err e) f = Err e

-- ---- places

-- how many bytes stand before the first that passes a test; all of them where none does
unfoldable pub before : (ℕ → Bool) → List ℕ → ℕ
before p [] = 0
before p (b ∷ bs) = cond (p b) 0 (suc (before p bs))

-- the first place from one on whose byte passes a test, else the text's end
unfoldable pub first_from : (ℕ → Bool) → List ℕ → ℕ → ℕ
first_from p text from = min (from + before p (drop from text)) (length text)

-- a byte, or where another is wanted another
abbrev pub sought : ℕ → Bool → ℕ → Bool
sought byte another b = cond another (not (b == byte)) (b == byte)

-- the first place from one on that holds a byte
abbrev pub find_of : List ℕ → ℕ → ℕ → ℕ
find_of text from byte = first_from (sought byte false) text from

-- the first place from one on that holds no space
abbrev pub skip_of : List ℕ → ℕ → ℕ
skip_of text from = first_from (sought 32 true) text from

-- ---- words

-- a byte before the first of some words
unfoldable pub onto : ℕ → List (List ℕ) → List (List ℕ)
onto b [] = (b ∷ []) ∷ []
onto b (w ∷ ws) = (b ∷ w) ∷ ws

-- a byte that is no space before a text with its words: a word by itself where a space or nothing follows
unfoldable pub begun : ℕ → List ℕ → List (List ℕ) → List (List ℕ)
begun b [] ws = (b ∷ []) ∷ ws
begun b (c ∷ cs) ws = cond (c == 32) ((b ∷ []) ∷ ws) (onto b ws)

-- "words apart by spaces"
unfoldable pub words : List ℕ → List (List ℕ)
words [] = []
words (b ∷ bs) = cond (b == 32) (words bs) (begun b bs (words bs))

-- "a missing or extra word": missing where fewer words are there than wanted, extra where more
unfoldable pub counted : ℕ → ℕ → Result ⊤ Unreadable
counted n wanted = cond (nat_lt n wanted) (Err unreadable.MissingWord) (cond (nat_lt wanted n) (Err unreadable.ExtraWord) (Ok tt))

-- are so many words left
abbrev pub exactly_of : List ℕ → ℕ → ℕ → Result ⊤ Unreadable
exactly_of text at wanted = counted (length (words (drop at text))) wanted

-- ---- names

-- a word's place among names, counted on from one
abbrev pub place_in : List ℕ → ℕ → List (List ℕ) → Option ℕ
place_in word n names = position_from (λ name. bytes_eq name word) n names

-- a word's place among names apart by spaces
abbrev pub place_of : List ℕ → List ℕ → Option ℕ
place_of names word = place_in word 0 (words names)

-- KEY=VALUE at its first sign: the key's place and where the value begins; none where there is no sign or the key is no name
unfoldable pub split_at : List ℕ → List ℕ → ℕ → Option Pair
split_at names word sign = cond (sign == length word) None (option_map (λ key. record { key = key; value = sign + 1 }) (place_of names (take sign word)))

abbrev pub split_of : List ℕ → List ℕ → Option Pair
split_of names word = split_at names word (find_of word 0 61)
