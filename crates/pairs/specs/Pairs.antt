-- A line of words KEY=VALUE (docs/SCRIPT.md): "each key in turn".
use Rattle.std.specs.Prelude.{ℕ, Bool, cond, List, [], ◌∷◌, drop, Option, Some, None, Result, Ok, Err, ⊤, ◌≡◌}
use Rattle.words.specs.declared.Pair.{Pair}
use Rattle.words.specs.declared.Unreadable.{Unreadable}
use Rattle.words.specs.declared.Unreadable.TheVariants as unreadable
use Rattle.words.specs.Words.{words, split_of, and_then}

-- what is kept of a line's keys: their names in order, whether a key was given, and the keys with a key's value, where it can be read
pub record Kept (K : Type 0) : Type 0 where
  pub names : List ℕ
  pub given : K → ℕ → Bool
  pub taken : K → ℕ → List ℕ → Result K Unreadable

-- keys that are taken in place: what they then are, or why they cannot be read
abbrev pub Takes : {K : Type 0} → Result K Unreadable → Result ⊤ Unreadable → K → Type 0
Takes r (Ok done) new = r ≡ Ok new
Takes r (Err why) new = r ≡ Err why

-- a key and its value: "unknown key", "a key that stands twice"
unfoldable pub paired : {K : Type 0} → Kept K → K → List ℕ → Option Pair → Result K Unreadable
paired t k word None = Err unreadable.UnknownKey
paired t k word (Some p) = cond (t.given k p.key) (Err unreadable.ExtraWord) (t.taken k p.key (drop p.value word))

-- one word more
unfoldable pub stepped : {K : Type 0} → Kept K → K → List ℕ → Result K Unreadable
stepped t k word = paired t k word (split_of t.names word)

-- a step for each word in turn, up to the first that cannot be read
unfoldable pub in_turn : {A E : Type 0} → (A → List ℕ → Result A E) → A → List (List ℕ) → Result A E
in_turn f a [] = Ok a
in_turn f a (w ∷ ws) = and_then (f a w) (λ b. in_turn f b ws)

-- the words of a text from a place on
abbrev pub gathered : {K : Type 0} → Kept K → K → List ℕ → ℕ → Result K Unreadable
gathered t k line from = in_turn (stepped t) k (words (drop from line))
