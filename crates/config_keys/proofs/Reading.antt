-- Laws of a configuration's keys: how many there are, the parts of compare C, and those of another.
use Rattle.std.proofs.Common.{◌≡◌, ℕ, zero, suc, ◌+◌, ◌-◌, ◌<◌, ◌≤◌, List, [], ◌∷◌, length, set, slice_index_or, refl, ap, arith, add-one, Option, None, Ok, Err}
use Rattle.std.specs.Option.{option_or}
use Rattle.figures.specs.Figures.{codes}
use Rattle.words.specs.declared.Unreadable.{Unreadable}
use Rattle.words.specs.Words.{words, begun, onto, find_of, and_then}
use Rattle.words.specs.Numbers.{between}
use Rattle.config_keys.specs.declared.Keys.{Keys}
use Rattle.config_keys.specs.Keys.{Value, config_keys, set_of, value_of, after_of, parts_from, filled}

pub keys_many : length (words config_keys.names) ≡ 25
unfolding words begun onto codes
keys_many = refl

-- ---- the parts of compare C

module _ (k : Keys) (word : List ℕ) (key at end : ℕ) (h : key < 29) (e : end ≡ find_of word at 58) where
  -- one part more
  pub parts_more : (v : Value) → value_of key (between word at end) ≡ Ok v
      → parts_from (29 - key) k word key at ≡ parts_from (29 - (key + 1)) (set_of k key v) word (key + 1) (after_of word end)
  unfolding parts_from and_then
  parts_more v r = let n : 29 - key ≡ suc (29 - (key + 1)) = omega arith in rw (n, ← e, r)

  -- a part that cannot be read
  pub parts_stopped : (why : Unreadable) → value_of key (between word at end) ≡ Err why → parts_from (29 - key) k word key at ≡ Err why
  unfolding parts_from and_then
  parts_stopped why r = let n : 29 - key ≡ suc (29 - (key + 1)) = omega arith in rw (n, ← e, r)

-- after the last
pub parts_all : (k : Keys) (word : List ℕ) (key at : ℕ) → 29 ≤ key → parts_from (29 - key) k word key at ≡ Ok k
unfolding parts_from
parts_all k word key at h = let n : 29 - key ≡ 0 = omega arith in rw n

-- ---- keys over others

-- the first values, with others where they have none, and the rest
unfoldable pub fill : ℕ → List (Option Value) → List (Option Value) → List (Option Value)
fill zero vs ws = vs
fill (suc n) [] ws = []
fill (suc n) (v ∷ vs) [] = v ∷ vs
fill (suc n) (v ∷ vs) (w ∷ ws) = option_or v w ∷ fill n vs ws

pub fill_none : (vs ws : List (Option Value)) → fill 0 vs ws ≡ vs
unfolding fill
fill_none vs ws = refl

-- one more
filled-next : (n : ℕ) (vs ws : List (Option Value)) → n < length vs → n < length ws
    → set (fill n vs ws) n (option_or (slice_index_or (fill n vs ws) n None) (slice_index_or ws n None)) ≡ fill (suc n) vs ws
unfolding fill
filled-next n [] ws h g = absurd (omega arith)
filled-next n (v ∷ vs) [] h g = absurd (omega arith)
filled-next zero (v ∷ vs) (w ∷ ws) h g = refl
filled-next (suc n) (v ∷ vs) (w ∷ ws) h g = ap (λ (l : List (Option Value)). option_or v w ∷ l) (filled-next n vs ws (omega arith) (omega arith))

pub fill_more : (n : ℕ) (vs ws now : List (Option Value)) → now ≡ fill n vs ws → n < length vs → n < length ws
    → set now n (option_or (slice_index_or now n None) (slice_index_or ws n None)) ≡ fill (n + 1) vs ws
fill_more n vs ws now e h g = rw (add-one n, e) (filled-next n vs ws h g)

-- all
pub fill_all : (n : ℕ) (vs ws : List (Option Value)) → length vs ≤ n → fill n vs ws ≡ filled vs ws
unfolding fill filled
fill_all zero [] ws h = refl
fill_all zero (v ∷ vs) ws h = absurd (omega arith)
fill_all (suc n) [] ws h = refl
fill_all (suc n) (v ∷ vs) [] h = refl
fill_all (suc n) (v ∷ vs) (w ∷ ws) h = ap (λ (l : List (Option Value)). option_or v w ∷ l) (fill_all n vs ws (omega arith))
